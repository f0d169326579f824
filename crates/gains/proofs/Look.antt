-- `look` finds nothing for a number that is none of the list's: what the last arm of `gain` needs. Assumes nothing.
use mathlib.Core.Path.{◌≡◌, refl, sym}
use mathlib.Core.List.{List, [], ◌∷◌}
use Prim.Native.Nat.{ℕ}
use borrow.Author.Tests.{ne_eqb}
use Rattle.laws.proofs.Arms.{Outside, outside_besides}
use Rattle.gains.specs.Gains.{look}

pub look_none : (ms bs : List ℕ) (n : ℕ) (A : Type 0) → Outside ms n A → look ms bs n ≡ 0
look_none [] bs n A o = refl
look_none (m ∷ ms) [] n A o = refl
look_none (m ∷ ms) (b ∷ bs) n A o =
    rw (ne_eqb m n (λ e. (outside_besides ms n (A × (n ≡ m → ⊥)) o).1 (sym e))) (look_none ms bs n (A × (n ≡ m → ⊥)) o)
