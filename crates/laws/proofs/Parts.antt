-- A list lent from one place on: what is lent, and the whole with something else in its place. Assumes nothing.
use mathlib.Core.Path.{◌≡◌, ap, ◌∙◌}
use mathlib.Core.List.{List, ◌++◌, append-nil}
use Prim.Native.Nat.{ℕ, ◌-◌}
use native.Mathlib.Omega.{arith}
use lib.ListN.{length, take, drop, length-drop, drop_of_length-le}
use lib.Seq.{take_all}
use borrow.Rule.Slice.PartMut.{mid_of, put_mid}

module _ {A : Type 0} (a : ℕ) (l : List A) where
  pub mid_tail : mid_of a (length l - a) l ≡ drop a l
  mid_tail = take_all (length l - a) (drop a l) (omega (arith, length-drop a l))

  pub put_tail : (q : List A) → put_mid a (length l - a) l q ≡ take a l ++ q
  put_tail q =
      ap (λ (r : List A). take a l ++ (q ++ r)) (drop_of_length-le (drop a l) {i = length l - a} (omega (arith, length-drop a l)))
      ∙ ap (λ (r : List A). take a l ++ r) (append-nil q)
