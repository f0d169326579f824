-- The length of a part of a list, and that no call begins where there is no byte. Assumes nothing.
use mathlib.Core.Path.{◌≡◌, refl}
use mathlib.Core.List.{List, [], ◌∷◌}
use Prim.Native.Nat.{ℕ, ◌≤◌}
use native.Mathlib.Omega.{arith}
use lib.ListN.{length, take, length-take}
use Rattle.call_log.specs.Log.{rows, fields_of, field_taken, fields, call_taken}
use Rattle.replay.specs.Steps.{taken_of}

pub at_most : (n : ℕ) (l : List ℕ) → length (take n l) ≤ n
at_most n l = omega (arith, length-take n l)

pub none_taken : (b : List ℕ) → length b ≡ 0 → 0 ≡ taken_of b
unfolding call_taken fields fields_of field_taken rows
none_taken [] e = refl
none_taken (x ∷ b) e = omega arith
