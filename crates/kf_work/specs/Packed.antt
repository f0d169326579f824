-- The transform with its twiddles packed: a stage's one beside the other, then those of the rest of the plan. Definitions only.
use Rattle.std.specs.Prelude.{◌≡◌, Bool, false, cond, ◌&&◌, List, [], ◌∷◌, ℕ, suc, ◌+◌, ◌*◌, ◌-◌, ◌/◌, ◌%◌, ◌<◌, leb, eqb, length, get_or, Float}
use Rattle.complex.specs.declared.Complex.{Complex}
use Rattle.complex.specs.Complex.{parts, at}
use Rattle.columns.specs.Column.{two, three, four}
use Rattle.butterflies.specs.Butterflies.{stage}
use Rattle.kf_work.specs.Work.{plan, span, within, BothParts}
use Rattle.quads.specs.Beside.{one32, beside, beside_by, beside5}

-- what is left of a table for the rest of the plan, after the twiddles of a stage of radix p with parts of m places
abbrev pub after : (ℕ → Complex) → ℕ → ℕ → ℕ → Complex
after u p m k = u (m * (p - 1) + k)

-- `column`, with the packed table u, whose last place is a third of a turn: it has as many places as the block but one
unfoldable pub packed_column : (ℕ → Complex) → Bool → ℕ → ℕ → ℕ → (ℕ → Complex) → ℕ → Complex
packed_column u inverse p m =
    cond (eqb p 2) (beside_by two u m) (cond (eqb p 3) (beside_by (three (u (3 * m - 2))) u m) (cond (eqb p 4) (beside_by (four inverse) u m) (λ j. beside5 u)))

-- a plan whose innermost stage has radix 5, and no other one: what `kf_work` takes
unfoldable pub fives : List ℕ → Bool
fives [] = false
fives (p ∷ []) = false
fives (p ∷ m ∷ []) = eqb p 5
fives (p ∷ m ∷ r ∷ ps) = leb p 4 && fives (r ∷ ps)

-- `work`, with the packed table u
unfoldable pub packed_work : (ℕ → Complex) → Bool → (ℕ → Complex) → List ℕ → ℕ → ℕ → ℕ → Complex
packed_work u inverse x [] s o k = x o
packed_work u inverse x (p ∷ []) s o k = x o
packed_work u inverse x (p ∷ m ∷ ps) s o k =
    stage p m (packed_column u inverse p m) (λ k. packed_work (after u p m) inverse x ps (s * p) (o + k / m * s) (k % m)) k

-- its innermost stage, of radix 5, on x o, x (o + s), ..
unfoldable pub innermost : (ℕ → Complex) → (ℕ → Complex) → ℕ → ℕ → ℕ → Complex
innermost u x s o = beside5 u (λ q. x (o + q * s))

-- g with the innermost stages below the first radix of the plan in its first places, one after the other
abbrev pub leaves : List ℕ → ℕ → ℕ → (ℕ → Complex) → (ℕ → Complex) → (ℕ → Complex) → ℕ → Complex
leaves ps s o u x g = let p = get_or ps 0 0 in within (p * 5) (λ k. innermost u x (s * p) (o + k / 5 * s) (k % 5)) g

-- g with the transform by the plan in its first places
abbrev pub worked : List ℕ → ℕ → ℕ → Bool → (ℕ → Complex) → (ℕ → Complex) → (ℕ → Complex) → ℕ → Complex
worked ps s o inverse u x g = within (span ps) (packed_work u inverse x ps s o) g

-- `spectrum`, with the packed table u
unfoldable pub packed_spectrum : (ℕ → Complex) → Bool → ℕ → (ℕ → Complex) → ℕ → Complex
packed_spectrum u inverse n x = packed_work u inverse x (plan n) 1 0

-- re and im are the two parts of the transform of the numbers in x and y, with the packed table in tr and ti
abbrev pub PackedTransformed : Bool → List Float → List Float → List Float → List Float → List Float → List Float → Type 0
PackedTransformed inverse tr ti x y re im = let n = length x in BothParts n (packed_spectrum (at tr ti) inverse n (at x y)) re im

-- The table u has of the twiddles t those that the plan reads at stride s. Of the innermost stage: no turn, a fifth and two fifths. Of every other: twiddle q j s
-- at place j of part q, and in radix 3 a third of a turn at its end.
unfoldable pub Packed : (ℕ → Complex) → List ℕ → ℕ → (ℕ → Complex) → Type 0
Packed t [] s u = Unit {0}
Packed t (p ∷ []) s u = Unit {0}
Packed t (p ∷ m ∷ []) s u = (parts one32 (u 0).i ≡ t 0) × (u 1 ≡ t s) × (u 2 ≡ t (2 * s))
Packed t (p ∷ m ∷ r ∷ ps) s u =
    ((j q : ℕ) → j < m → suc q < p → beside u m j q ≡ t (suc q * (j * s)))
    × (p ≡ 3 → u (3 * m - 2) ≡ t (s * m))
    × Packed t (r ∷ ps) (s * p) (after u p m)
