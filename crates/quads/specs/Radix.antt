-- What the code over a radix rests on: a butterfly looks at the places of its column alone, and its parts are written in an order that goes through all. Each is shown
-- of the radixes below. Assumes nothing.
use mathlib.Core.Path.{◌≡◌, refl}
use mathlib.Core.Bool.{Bool, true, false}
use Prim.Native.Nat.{ℕ, zero, suc, ◌<◌}
use native.Mathlib.Omega.{arith}
use Rattle.complex.specs.declared.Complex.{Complex}
use Rattle.columns.specs.Column.{two, three, four, five}
use Rattle.quads.specs.Rows.{in_turn, exchanged}

-- b depends on the first p of a column
abbrev pub Sees : ℕ → ((ℕ → Complex) → ℕ → Complex) → Type 0
Sees p b = (c c' : ℕ → Complex) → ((q : ℕ) → q < p → c q ≡ c' q) → b c ≡ b c'

-- an order that goes through the p parts, and is its own inverse
pub record Through (p : ℕ) (o : ℕ → ℕ) : Type 0 where
  pub into : (q : ℕ) → q < p → o q < p
  pub back : (q : ℕ) → q < p → o (o q) ≡ q

pub sees2 : Sees 2 two
sees2 c c' e = rw (e 0 (omega arith), e 1 (omega arith))

pub sees3 : (y : Complex) → Sees 3 (three y)
sees3 y c c' e = rw (e 0 (omega arith), e 1 (omega arith), e 2 (omega arith))

pub sees4 : (inverse : Bool) → Sees 4 (four inverse)
sees4 inverse c c' e = rw (e 0 (omega arith), e 1 (omega arith), e 2 (omega arith), e 3 (omega arith))

pub sees5 : (ya yb : Complex) → Sees 5 (five ya yb)
sees5 ya yb c c' e = rw (e 0 (omega arith), e 1 (omega arith), e 2 (omega arith), e 3 (omega arith), e 4 (omega arith))

pub in_turn_lem : (p : ℕ) → Through p in_turn
in_turn_lem p = record { into = λ q l. l; back = λ q l. refl }

-- each of four parts
pub by_part : (P : ℕ → Type 0) → P 0 → P 1 → P 2 → P 3 → (q : ℕ) → q < 4 → P q
by_part P p0 p1 p2 p3 zero l = p0
by_part P p0 p1 p2 p3 (suc zero) l = p1
by_part P p0 p1 p2 p3 (suc (suc zero)) l = p2
by_part P p0 p1 p2 p3 (suc (suc (suc zero))) l = p3
by_part P p0 p1 p2 p3 (suc (suc (suc (suc q)))) l = absurd (omega arith)

pub exchange : (inverse : Bool) → Through 4 (exchanged inverse)
unfolding exchanged
exchange false = in_turn_lem 4
exchange true = record {
  into = by_part (λ q. exchanged true q < 4) (omega arith) (omega arith) (omega arith) (omega arith);
  back = by_part (λ q. exchanged true (exchanged true q) ≡ q) refl refl refl refl;
}
