-- What a bound on an f32 says, and on each value of a list. Definitions only.
use Rattle.std.specs.Prelude.{List, [], ◌∷◌, ℕ, ◌*◌, ◌≤◌, Float}
use Rattle.std.specs.Float.{nan, inf, fin}
use Rattle.std.specs.Float.Ieee.{up, down}

-- x is finite, and its magnitude is at most a / c. The magnitude of fin s m e is m * up e / down e.
abbrev pub Within : ℕ → ℕ → Float → Type 0
Within a c nan = ⊥
Within a c (inf s) = ⊥
Within a c (fin s m e) = m * up e * c ≤ a * down e

-- each value of the list has P
pub data Each {A : Type 0} (P : A → Type 0) : List A → Type 0 where
  none : Each P []
  also : {x : A} {xs : List A} → P x → Each P xs → Each P (x ∷ xs)
