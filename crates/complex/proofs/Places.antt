-- What a store to both lists does to the places, and what `upd` is at a place. Assumes nothing.
use mathlib.Core.Path.{◌≡◌}
use mathlib.Core.List.{List}
use Prim.Native.Nat.{ℕ, ◌<◌}
use native.Mathlib.Decide.{ℕ_discrete}
use lib.ListN.{length, set}
use lib.Seq.{get_or-set_same, get_or-set_other}
use lib.Ieee.{Float, nan}
use borrow.Author.Tests.{eq-eqb, ne_eqb}
use Rattle.complex.specs.declared.Complex.{Complex}
use Rattle.complex.specs.Complex.{at, upd}

pub upd_same : (f : ℕ → Complex) (k : ℕ) (c : Complex) (j : ℕ) → j ≡ k → upd f k c j ≡ c
unfolding upd
upd_same f k c j e = rw (eq-eqb j k e)

pub upd_other : (f : ℕ → Complex) (k : ℕ) (c : Complex) (j : ℕ) → (j ≡ k → ⊥) → upd f k c j ≡ f j
unfolding upd
upd_other f k c j n = rw (ne_eqb j k n)

pub put-at : (re im : List Float) (k : ℕ) (c : Complex) → k < length re → k < length im
    → (j : ℕ) → at (set re k c.r) (set im k c.i) j ≡ upd (at re im) k c j
put-at re im k c hr hi j =
    elim (ℕ_discrete j k) [
      | yes e ↦ rw (upd_same (at re im) k c j e, e, get_or-set_same re k c.r nan hr, get_or-set_same im k c.i nan hi)
      | no n ↦ rw (upd_other (at re im) k c j n, get_or-set_other re k j c.r nan n, get_or-set_other im k j c.i nan n)
    ]
