-- `singles` meets its contract. The loop's invariant: the bands of the first q fours are of one line each, and their places of both slices are filled. Assumes nothing.
use Prim.Native.Nat.{ℕ, ◌*◌, ◌<◌}
use Rattle.laws.proofs.Lists.{Filled}
use Rattle.measurement_steps.specs.Energy.{energy, band_of}
use Rattle.measurement_steps.specs.Peak.{peak_of}
use Rattle.measurement_steps.specs.Singles.{Apart}
use Rattle.measurement_steps.proofs.singles.Given as goal

abbrev pub invariant-loop-q : goal.invariant-loop-q
invariant-loop-q l = ((p : ℕ) → p < l.q → Apart l.edges (4 * p))
    × Filled (λ (b : ℕ). energy (band_of l.edges l.lines b)) l.initial.out (4 * l.q) l.out
    × Filled (peak_of l.edges l.lines) l.initial.places (4 * l.q) l.places
