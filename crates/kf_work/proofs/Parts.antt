-- A part of a slice from a on, lent and back: what stands at each place. Assumes nothing.
use mathlib.Core.Path.{◌≡◌, sym, ap, ap₂, ◌∙◌, fun_ext}
use mathlib.Core.List.{List}
use Prim.Native.Nat.{ℕ, ◌+◌, ◌*◌, ◌-◌, ◌/◌, ◌%◌, ◌<◌, ◌≤◌}
use native.Mathlib.Nat.{mul-add-div_right, mul-add-mod_self_right, mod-eq_of_lt, div-eq_of_lt, add-zero}
use native.Mathlib.Decide.{dec_lt}
use native.Mathlib.Omega.{arith}
use lib.ListN.{length, get_or, take, drop, length-drop, get_or-append}
use lib.Seq.{get_or-drop, get_or-take, get_or-append-add, length-take-le, take_all}
use lib.Ieee.{Float, nan}
use borrow.Rule.Slice.PartMut.{mid_of, put_mid}
use Rattle.complex.specs.declared.Complex.{Complex}
use Rattle.complex.specs.Complex.{at}
use Rattle.laws.proofs.Parts.{mid_tail, put_tail}
use Rattle.kf_work.specs.Work.{within}
use Rattle.kf_work.proofs.Spread.{within-lt, within_ge, within-part}
use Rattle.kf_work.proofs.Stages.{blocks}

module _ {X : Type 0} (d : X) (a : ℕ) (xs : List X) (h : a ≤ length xs) where
  pub mid_at : (j : ℕ) → get_or (mid_of a (length xs - a) xs) j d ≡ get_or xs (a + j) d
  mid_at j = ap (λ (l : List X). get_or l j d) (mid_tail a xs) ∙ get_or-drop a xs j d

  pub put_low : (ys : List X) (i : ℕ) → i < a → get_or (put_mid a (length xs - a) xs ys) i d ≡ get_or xs i d
  put_low ys i l =
      ap (λ (r : List X). get_or r i d) (put_tail a xs ys)
      ∙ get_or-append (take a xs) ys d i (omega (arith, length-take-le a xs h))
      ∙ get_or-take a xs i d l

  pub put-high : (ys : List X) (j : ℕ) → get_or (put_mid a (length xs - a) xs ys) (a + j) d ≡ get_or ys j d
  put-high ys j =
      ap₂ (λ (r : List X) (n : ℕ). get_or r (n + j) d) (put_tail a xs ys) (sym (length-take-le a xs h))
      ∙ get_or-append-add (take a xs) ys j d

pub within_ext : (m : ℕ) (f f' g g' : ℕ → Complex) → ((j : ℕ) → j < m → f j ≡ f' j) → ((j : ℕ) → g j ≡ g' j) → within m f g ≡ within m f' g'
within_ext m f f' g g' e e2 =
    fun_ext (λ k. elim (dec_lt k m) [
      | yes l ↦ within-lt m f g k l ∙ e k l ∙ sym (within-lt m f' g' k l)
      | no h ↦ within_ge m f g k (omega arith) ∙ e2 k ∙ sym (within_ge m f' g' k (omega arith))
    ])

-- the q-th sub-transform was done on the parts from q m on
module _ (w : ℕ → ℕ → Complex) (m s o q : ℕ) (hm : 0 < m) where
  block_at : (j : ℕ) → j < m → w (o + q * s) j ≡ blocks w m s o (q * m + j)
  block_at j l =
      let quot : (q * m + j) / m ≡ q = mul-add-div_right hm q j ∙ ap (λ (x : ℕ). q + x) (div-eq_of_lt l) ∙ add-zero q in
      let rest : (q * m + j) % m ≡ j = mul-add-mod_self_right q m j ∙ mod-eq_of_lt l in
      sym (ap₂ (λ (a b : ℕ). w (o + a * s) b) quot rest)

  pub call_done : (g₀ : ℕ → Complex) (re im ys zs : List Float) → q * m ≤ length re → q * m ≤ length im
      → at re im ≡ within (q * m) (blocks w m s o) g₀
      → at ys zs ≡ within m (w (o + q * s)) (at (mid_of (q * m) (length re - q * m) re) (mid_of (q * m) (length im - q * m) im))
      → at (put_mid (q * m) (length re - q * m) re ys) (put_mid (q * m) (length im - q * m) im zs) ≡ within ((q + 1) * m) (blocks w m s o) g₀
  call_done g₀ re im ys zs hr hi before call =
      within-part m q (blocks w m s o) g₀ (at re im) _ (at ys zs) before
      (call ∙ within_ext m _ _ _ _ block_at (λ j. λ i. record { r = mid_at nan (q * m) re hr j i; i = mid_at nan (q * m) im hi j i }))
      (λ k l. λ i. record { r = put_low nan (q * m) re hr ys k l i; i = put_low nan (q * m) im hi zs k l i })
      (λ j. λ i. record { r = put-high nan (q * m) re hr ys j i; i = put-high nan (q * m) im hi zs j i })

-- what is left of a table from place k on, as the part of a slice that it is lent as
abbrev pub from_on : ℕ → List Float → List Float
from_on k l = take (length l - k) (drop k l)

pub from_on_length : (k : ℕ) (l : List Float) → k ≤ length l → length (from_on k l) ≡ length l - k
from_on_length k l h = length-take-le (length l - k) (drop k l) (omega (arith, length-drop k l))

pub from_on_at : (k : ℕ) (re im : List Float) → at (from_on k re) (from_on k im) ≡ (λ i. at re im (k + i))
from_on_at k re im = fun_ext (λ i. λ z. record { r = each re i z; i = each im i z })
  where
    each : (l : List Float) (i : ℕ) → get_or (from_on k l) i nan ≡ get_or l (k + i) nan
    each l i = ap (λ (x : List Float). get_or x i nan) (take_all (length l - k) (drop k l) (omega (arith, length-drop k l))) ∙ get_or-drop k l i nan
