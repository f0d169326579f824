-- What a band has come to, line by line: the sum of shares, and the scan's place. Assumes nothing.
use mathlib.Core.Path.{◌≡◌, refl, sym, ap, subst, ◌∙◌}
use mathlib.Core.Logic.{⊎_elim}
use mathlib.Core.Bool.{Bool, true, false, cond}
use mathlib.Core.List.{List, [], ◌∷◌}
use Prim.Native.Nat.{ℕ, ◌+◌, ◌≤◌, ◌<◌}
use native.Mathlib.Nat.{add-zero}
use native.Mathlib.Omega.{arith}
use lib.IntN.{pos}
use lib.ListN.{length, get_or, take, drop}
use lib.Ieee.{Float, nan, binary32, add, div, lt, of_int}
use Rattle.laws.specs.Lists.{tab}
use Rattle.laws.specs.Numbers.{zero32}
use Rattle.laws.specs.Greatest.{best}
use Rattle.laws.proofs.Bools.{outcomes}
use Rattle.laws.proofs.Lists.{get_or-map}
use Rattle.laws.proofs.Greatest.{best-within, scan_takes, scan_keeps}
use Rattle.measurement_steps.specs.declared.Reading.{Reading}
use Rattle.measurement_steps.specs.Energy.{sum_of}
use Rattle.measurement_steps.specs.Peak.{square, squares, peak, share_by, up_to, whole, higher}
use Rattle.measurement_steps.proofs.Sums.{stretch, Summed, summed_on, summed_more, summed_all, is_energy}

-- b has the scan's place among the first i lines, and its product
pub record Topped (ls : List Float) (i : ℕ) (b : Reading) : Type 0 where
  pub place : b.peak ≡ best (squares ls) i
  pub product : b.greatest ≡ get_or (squares ls) (best (squares ls) i) nan

-- a line more
pub topped_more : (ls : List Float) (i j : ℕ) {b : Reading} {p : Float} → i + 1 ≡ j → Topped ls i b → i < length ls → p ≡ square (get_or ls i nan) → Topped ls j (higher b i p)
topped_more ls i j {b} {p} n h l e = subst (λ (k : ℕ). Topped ls k (higher b i p)) n (⊎_elim taken left (outcomes (lt b.greatest p)))
  where
    sq : List Float
    sq = squares ls

    at : p ≡ get_or sq i nan
    at = e ∙ sym (get_or-map square ls i nan nan l)

    product_is : b.greatest ≡ get_or sq b.peak nan
    product_is = h.product ∙ ap (λ (k : ℕ). get_or sq k nan) (sym h.place)

    taken : lt b.greatest p ≡ true → Topped ls (i + 1) (higher b i p)
    taken t =
        let q = scan_takes sq b.peak i b.greatest h.place product_is (ap (lt b.greatest) (sym at) ∙ t) in
        record { place = rw t q; product = rw t (at ∙ ap (λ (k : ℕ). get_or sq k nan) q) }

    left : lt b.greatest p ≡ false → Topped ls (i + 1) (higher b i p)
    left t =
        let q = scan_keeps sq b.peak i b.greatest h.place product_is (ap (lt b.greatest) (sym at) ∙ t) in
        record { place = rw t q; product = rw t (product_is ∙ ap (λ (k : ℕ). get_or sq k nan) q) }

-- what a band has come to, by its parts
pub comes_to : (w : Float) (ls : List Float) (n : ℕ) (b : Reading) → Summed (share_by w) zero32 ls n b.energy → Topped ls n b → b ≡ up_to w ls n
unfolding up_to
comes_to w ls n b s t = λ j. record { energy = s j; peak = t.place j; greatest = t.product j }

pub summed_of : (w : Float) (ls : List Float) (n : ℕ) (b : Reading) → b ≡ up_to w ls n → Summed (share_by w) zero32 ls n b.energy
unfolding up_to
summed_of w ls n b e = ap (λ (x : Reading). x.energy) e

pub topped_of : (w : Float) (ls : List Float) (n : ℕ) (b : Reading) → b ≡ up_to w ls n → Topped ls n b
unfolding up_to
topped_of w ls n b e = record { place = ap (λ (x : Reading). x.peak) e; product = ap (λ (x : Reading). x.greatest) e }

-- before the first line
pub start_is : (w : Float) (ls : List Float) (p : Float) → 0 < length ls → p ≡ square (get_or ls 0 nan) → ◌≡◌ {A = Reading} (record { energy = zero32; peak = 0; greatest = p }) (up_to w ls 0)
unfolding up_to best
start_is w ls p l e = let at = e ∙ sym (get_or-map square ls 0 nan nan l) in λ j. record { energy = zero32; peak = 0; greatest = at j }

-- the number of lines, another way
pub at_place : (w : Float) (ls : List Float) (n m : ℕ) {b : Reading} → b ≡ up_to w ls n → n ≡ m → b ≡ up_to w ls m
at_place w ls n m e p = e ∙ ap (up_to w ls) p

-- lines more, from place i on, for what a band has come to: b with another energy
module _ (w : Float) (ls : List Float) (i : ℕ) (b : Reading) (h : b ≡ up_to w ls i) where
  abbrev pub summed : Float → Reading
  summed e = record { energy = e; peak = b.peak; greatest = b.greatest }

  begun : (e : Float) → Topped ls i (summed e)
  begun e = let t = topped_of w ls i b h in record { place = t.place; product = t.product }

  pub more_is : (p : Float) → i < length ls → p ≡ square (get_or ls i nan) → higher (summed (add binary32 b.energy (div binary32 p w))) i p ≡ up_to w ls (i + 1)
  more_is p l e =
      let own = ap (λ (x : Float). add binary32 b.energy (div binary32 x w)) e ∙ summed_more (share_by w) zero32 ls i b.energy (summed_of w ls i b h) l in
      comes_to w ls (i + 1) _ own (topped_more ls i (i + 1) refl (begun _) l e)

  module _ (s : Float) (p q r t : Float) (l : i + 4 ≤ length ls)
      (ep : p ≡ square (get_or ls i nan)) (eq : q ≡ square (get_or ls (i + 1) nan)) (er : r ≡ square (get_or ls (i + 2) nan)) (et : t ≡ square (get_or ls (i + 3) nan)) where
    four_tops : Topped ls (i + 4) (higher (higher (higher (higher (summed s) i p) (i + 1) q) (i + 2) r) (i + 3) t)
    four_tops =
        let two = topped_more ls (i + 1) (i + 2) (omega arith) (topped_more ls i (i + 1) refl (begun s) (omega arith) ep) (omega arith) eq in
        topped_more ls (i + 3) (i + 4) (omega arith) (topped_more ls (i + 2) (i + 3) (omega arith) two (omega arith) er) (omega arith) et

    pub four_is : s ≡ add binary32 (add binary32 (add binary32 (add binary32 b.energy (div binary32 p w)) (div binary32 q w)) (div binary32 r w)) (div binary32 t w)
        → higher (higher (higher (higher (summed s) i p) (i + 1) q) (i + 2) r) (i + 3) t ≡ up_to w ls (i + 4)
    unfolding tab
    four_is e =
        let own : s ≡ sum_of (share_by w) b.energy (take 4 (drop i ls)) = simp (e, ep, eq, er, et, stretch 4 i ls l, add-zero) in
        comes_to w ls (i + 4) _ (summed_on (share_by w) zero32 ls i 4 (i + 4) b.energy s (summed_of w ls i b h) own refl) four_tops

-- after all lines
pub whole_is : (w : Float) (ls : List Float) (n : ℕ) (b : Reading) → b ≡ up_to w ls n → length ls ≡ n → w ≡ of_int binary32 (pos n) → b ≡ whole ls
unfolding whole peak
whole_is w ls n b e l v =
    let t = topped_of w ls n b e in
    let q : best (squares ls) n ≡ best (squares ls) (length ls) = ap (best (squares ls)) (sym l) in
    let s = is_energy ls n w b.energy (summed_all (share_by w) zero32 ls n b.energy (summed_of w ls n b e) (sym l)) l v in
    λ j. record { energy = s j; peak = (t.place ∙ q) j; greatest = (t.product ∙ ap (λ (k : ℕ). get_or (squares ls) k nan) q) j }

-- a peak is not past its band
pub peak-within : (ls : List Float) (b : Reading) → b ≡ whole ls → b.peak ≤ length ls
unfolding whole peak
peak-within ls b e = omega (arith, ap (λ (x : Reading). x.peak) e, best-within (squares ls) (length ls))

-- one line is its own peak
pub lone_peak : (ls : List Float) → peak (take 1 ls) ≡ 0
unfolding peak best
lone_peak [] = refl
lone_peak (x ∷ xs) = either (lt (square x) (square x))
  where
    either : (t : Bool) → ◌≡◌ {A = ℕ} (cond t 0 0) 0
    either true = refl
    either false = refl
