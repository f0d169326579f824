-- The loop that writes the lines, two neighbours a round; the numbers that the places look at; and the length that the DCT keeps. Assumes nothing.
use mathlib.Core.Path.{◌≡◌, sym, ◌∙◌, subst}
use mathlib.Core.List.{List}
use Prim.Native.Nat.{ℕ, ◌+◌, ◌*◌, ◌-◌, ◌/◌, ◌%◌, ◌<◌}
use native.Mathlib.Omega.{arith}
use lib.Ieee.{Float, nan, binary32, mul, neg}
use lib.ListN.{length, set}
use borrow.Author.Tests.{eq-eqb, ne_eqb}
use Rattle.laws.specs.Lists.{tab}
use Rattle.laws.proofs.Lists.{length-tab, tab_ext, Filled, filled_more}
use Rattle.complex.specs.declared.Complex.{Complex}
use Rattle.dct_steps.specs.Dct.{double, placed, dct_iv}

module _ (c n : ℕ) (z : ℕ → Complex) (even : n ≡ 2 * c) (i : ℕ) (l : i < c) where
  first_of_two : placed z n (2 * i) ≡ mul binary32 (z i).r double
  first_of_two =
      let h : 2 * i / 2 ≡ i = omega arith in
      rw (eq-eqb (2 * i % 2) 0 (omega arith), h)

  second_of_two : placed z n (2 * i + 1) ≡ mul binary32 (neg (z (c - 1 - i)).i) double
  second_of_two =
      let h : (n - 1 - (2 * i + 1)) / 2 ≡ c - 1 - i = omega arith in
      rw (ne_eqb ((2 * i + 1) % 2) 0 (λ e. omega arith), h)

  -- a round: the lower place is of number i, the upper of the number as far from the end
  pub two-more : {before buf out : List Float} {a b : Float} → length before ≡ n → Filled (placed z n) before (2 * i) buf
      → a ≡ mul binary32 (z i).r double → b ≡ mul binary32 (neg (z (c - 1 - i)).i) double
      → out ≡ set (set buf (2 * i) a) (2 * i + 1) b → Filled (placed z n) before (2 * (i + 1)) out
  two-more {before} {buf} {out} {a} {b} room h ea eb e =
      let k : 2 * i + 1 + 1 ≡ 2 * (i + 1) = omega arith in
      let one = filled_more a nan h (omega arith) (ea ∙ sym first_of_two) in
      let two = filled_more b nan one (omega arith) (eb ∙ sym second_of_two) in
      subst (λ (x : ℕ × List Float). Filled (placed z n) before x.0 x.1) (λ j. (k j, sym e j)) two

-- the places look at the first c of n = 2 c numbers
pub placed_ext : (c n : ℕ) (z z' : ℕ → Complex) → n ≡ 2 * c → ((k : ℕ) → k < c → z k ≡ z' k) → tab n (placed z n) ≡ tab n (placed z' n)
placed_ext c n z z' e same =
    tab_ext n (placed z n) (placed z' n)
    (λ k l. let a : z (k / 2) ≡ z' (k / 2) = same (k / 2) (omega arith) in
    let b : z ((n - 1 - k) / 2) ≡ z' ((n - 1 - k) / 2) = same ((n - 1 - k) / 2) (omega arith) in
    rw (a, b))

pub length-dct_iv : (buf : List Float) → length (dct_iv buf) ≡ length buf
unfolding dct_iv
length-dct_iv buf = length-tab (length buf) _
