-- What the last arm of a match on a number knows: the number is none of the arms before it. Where these are a, a + 1, .. and the number is no less than
-- a, it is past them all. Assumes nothing.
use mathlib.Core.Path.{◌≡◌}
use mathlib.Core.List.{List, [], ◌∷◌}
use Prim.Native.Nat.{ℕ, zero, suc, ◌+◌, ◌≤◌}
use native.Mathlib.Omega.{arith}

-- none of a list's numbers; A is what is known besides
abbrev pub Outside : List ℕ → ℕ → Type 0 → Type 0
Outside [] n A = A
Outside (m ∷ ms) n A = Outside ms n (A × (n ≡ m → ⊥))

pub outside_besides : (ms : List ℕ) (n : ℕ) (A : Type 0) → Outside ms n A → A
outside_besides [] n A o = o
outside_besides (m ∷ ms) n A o = (outside_besides ms n (A × (n ≡ m → ⊥)) o).0

-- a, a + 1, .. : n of them
abbrev pub from : ℕ → ℕ → List ℕ
from zero a = []
from (suc n) a = a ∷ from n (suc a)

up : (n c : ℕ) → n ≤ c → (c ≡ n → ⊥) → suc n ≤ c
up n c l h = omega arith

besides_from : (n a c : ℕ) (A : Type 0) → a ≤ c → Outside (from n a) c A → a + n ≤ c
besides_from zero a c A l o = omega arith
besides_from (suc n) a c A l o =
    let besides = outside_besides (from n (suc a)) c (A × (c ≡ a → ⊥)) o in
    let h = besides_from n (suc a) c (A × (c ≡ a → ⊥)) (up a c l besides.1) o in omega arith

pub past_from : (n a c : ℕ) → a ≤ c → Outside (from n a) c Unit → a + n ≤ c
past_from n a c l o = besides_from n a c Unit l o
