-- Numbers of a list: what holds at each place holds of each number, what the last arm of a match on the list's numbers knows, and a search.
-- Assumes nothing.
use mathlib.Core.Path.{◌≡◌, refl, sym, subst}
use mathlib.Core.Bool.{Bool, true, false, ◌||◌}
use mathlib.Core.List.{List, [], ◌∷◌}
use Prim.Native.Nat.{ℕ, suc, ◌<◌}
use native.Mathlib.Decide.{ℕ_discrete}
use native.Mathlib.Omega.{arith}
use lib.Dec.{T, eqb}
use lib.ListN.{length, get_or}
use borrow.Author.Tests.{ne_eqb}
use Rattle.laws.proofs.Table.{every, at}
use Rattle.laws.proofs.Arms.{Outside, outside_besides}
use Rattle.std.specs.List.{list_any}
use Rattle.config.specs.Config.{among}

among_all : (P : ℕ → Type 0) (ns : List ℕ) → ((k : ℕ) → k < length ns → P (get_or ns k 0)) → (n : ℕ) → T (among ns n) → P n
among_all P [] h n a = absurd a
among_all P (m ∷ ms) h n a =
    elim (ℕ_discrete m n) [
      | yes e ↦ subst P e (h 0 (omega arith))
      | no d ↦ among_all P ms (λ k l. h (suc k) (omega arith)) n (rw (ne_eqb m n d) at a)
    ]

-- a test that passes at each number of the list
pub at-among : (f : ℕ → Bool) (ns : List ℕ) → T (every (λ k n. f n) 0 ns) → (n : ℕ) → T (among ns n) → T (f n)
at-among f ns t n a = among_all (λ n. T (f n)) ns (at (λ k n. f n) ns t) n a

pub outside_among : (ms : List ℕ) (n : ℕ) (A : Type 0) → Outside ms n A → among ms n ≡ false
outside_among [] n A o = refl
outside_among (m ∷ ms) n A o =
    rw (ne_eqb m n (λ e. (outside_besides ms n (A × (n ≡ m → ⊥)) o).1 (sym e))) (outside_among ms n (A × (n ≡ m → ⊥)) o)

same : (p q : Bool) → (T p → T q) → (T q → T p) → p ≡ q
same true true f g = refl
same true false f g = absurd (f tt)
same false true f g = absurd (g tt)
same false false f g = refl

-- two lists of the same numbers
pub same_among : (ms ns : List ℕ) → T (every (λ k n. among ns n) 0 ms) → T (every (λ k n. among ms n) 0 ns) → (n : ℕ) → among ms n ≡ among ns n
same_among ms ns t u n = same (among ms n) (among ns n) (at-among (among ns) ms t n) (at-among (among ms) ns u n)

-- what the last arm knows of a number that is one of a list's: it passes a test that every number of the list passes but those of the arms before it
pub past_among : (f : ℕ → Bool) (ns ms : List ℕ) → T (every (λ k n. among ms n || f n) 0 ns) → (n : ℕ) → T (among ns n) → Outside ms n Unit → T (f n)
past_among f ns ms t n a o =
    let u : T (among ms n || f n) = at-among (λ n. among ms n || f n) ns t n a in
    rw (outside_among ms n Unit o) at u

-- std's search of a list
pub any_among : (ns : List ℕ) (n : ℕ) → list_any (λ m. eqb m n) ns ≡ among ns n
any_among [] n = refl
any_among (m ∷ ms) n = rw (any_among ms n)
