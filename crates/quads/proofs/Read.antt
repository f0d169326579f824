-- A butterfly of radix p looks at the p places of its column alone, so a column that is read into numbers is the column. Assumes nothing.
use mathlib.Core.Path.{◌≡◌, refl, ap, ap₂, ◌∙◌}
use mathlib.Core.Bool.{Bool, true, false}
use mathlib.Core.List.{List}
use Prim.Native.Nat.{ℕ, zero, suc, ◌+◌, ◌-◌, ◌*◌, ◌%◌, ◌<◌, ◌≤◌}
use native.Mathlib.Nat.{not-suc-le-zero}
use native.Mathlib.Omega.{arith}
use borrow.Author.Count.{below_more}
use lib.ListN.{length, set, length-set, replicate, length-replicate, get_or-replicate}
use lib.Seq.{get_or-set_same, get_or-set_other}
use lib.Ieee.{nan}
use Rattle.complex.specs.declared.Complex.{Complex}
use Rattle.complex.specs.Complex.{parts, times}
use Rattle.laws.specs.Lists.{tab}
use Rattle.laws.proofs.Lists.{get_or-tab}
use Rattle.columns.specs.Column.{four, col}
use Rattle.quads.specs.Beside.{twist_by, beside, beside_by}
use Rattle.quads.specs.Radix.{Sees, by_part}
use Rattle.quads.specs.Rows.{exchanged}

-- the same twiddles and places, the same column
pub twist_same : (w w' c c' : ℕ → Complex) (p : ℕ) → ((q : ℕ) → suc q < p → w q ≡ w' q) → ((q : ℕ) → q < p → c q ≡ c' q) → (q : ℕ) → q < p → twist_by w c q ≡ twist_by w' c' q
twist_same w w' c c' p e f zero l = f zero l
twist_same w w' c c' p e f (suc q) l = ap₂ times (f (suc q) l) (e q l)

-- the column is read as the numbers s
pub seen : (p : ℕ) (c : ℕ → Complex) (b : (ℕ → Complex) → ℕ → Complex) → Sees p b → (s : List Complex) → s ≡ tab p c → b (col s) ≡ b c
seen p c b sees s read = sees (col s) c (λ q l. ap (λ (x : List Complex). col x q) read ∙ get_or-tab p c (parts nan nan) q l)

-- The first q of the p places of l are those of column i, twiddled with u.
pub record Read (p : ℕ) (u : ℕ → Complex) (m i : ℕ) (f : ℕ → Complex) (q : ℕ) (l : List Complex) : Type 0 where
  pub size : length l ≡ p
  pub some : 0 < q
  pub are : (k : ℕ) → k < q → col l k ≡ twist_by (beside u m i) (λ q. f (i + m * q)) k

module _ {p : ℕ} {u : ℕ → Complex} {m i : ℕ} {f : ℕ → Complex} where
  pub read_first : {x : Complex} → 0 < p → x ≡ f i → Read p u m i f 1 (replicate p x)
  read_first {x} h e =
      let z : i ≡ i + m * 0 = omega arith in
      record {
        size = length-replicate p x;
        some = omega arith;
        are = below_more (λ k. col (replicate p x) k ≡ twist_by (beside u m i) (λ q. f (i + m * q)) k) 0 (λ k l. absurd (not-suc-le-zero l)) (get_or-replicate p 0 x (parts nan nan) h ∙ e ∙ ap f z);
      }

  pub read_more : {q : ℕ} {l : List Complex} {x : Complex} → Read p u m i f q l → q < p → x ≡ times (f (i + m * q)) (u (i + m * (q - 1))) → Read p u m i f (q + 1) (set l q x)
  read_more {q} {l} {x} r h e =
      let inside : q < length l = omega (arith, r.size) in
      record {
        size = length-set l q x ∙ r.size;
        some = omega arith;
        are = below_more (λ k. col (set l q x) k ≡ twist_by (beside u m i) (λ q. f (i + m * q)) k) q
            (λ k b. get_or-set_other l q k x (parts nan nan) (λ is. omega (arith, is)) ∙ r.are k b)
            (get_or-set_same l q x (parts nan nan) inside ∙ e ∙ later q r.some);
      }
    where
      later : (q : ℕ) → 0 < q → times (f (i + m * q)) (u (i + m * (q - 1))) ≡ twist_by (beside u m i) (λ q. f (i + m * q)) q
      later zero l = absurd (not-suc-le-zero l)
      later (suc q) l = let back : suc q - 1 ≡ q = omega arith in ap (λ (r : ℕ). times (f (i + m * suc q)) (u (i + m * r))) back

  -- all p places: what a butterfly makes of them is what it makes of the column
  pub read_all : {b : (ℕ → Complex) → ℕ → Complex} {q : ℕ} {l : List Complex} → Sees p b → Read p u m i f q l → p ≤ q → b (col l) ≡ beside_by b u m i (λ q. f (i + m * q))
  read_all sees r past = sees _ _ (λ k l. r.are k (omega arith))

-- the forward radix 4 has each part where the direction exchanges it to
pub exchange4 : (inverse : Bool) (c : ℕ → Complex) → tab 4 (four false c) ≡ tab 4 (λ q. four inverse c (exchanged inverse q))
unfolding tab exchanged
exchange4 false c = refl
exchange4 true c = refl

pub exchanged_is : (q : ℕ) → q < 4 → (4 - q) % 4 ≡ exchanged true q
unfolding exchanged
exchanged_is = by_part (λ q. (4 - q) % 4 ≡ exchanged true q) refl refl refl refl
