-- `apply_energy_estimation` meets its contract. The loop's invariant: the first b places of both slices are filled with their bands' energies and peaks. Assumes nothing.
use Prim.Native.Nat.{ℕ}
use Rattle.laws.proofs.Lists.{Filled}
use Rattle.measurement_steps.specs.Energy.{energy, band_of}
use Rattle.measurement_steps.specs.Peak.{peak_of}
use Rattle.measurement_steps.proofs.apply_energy_estimation.Given as goal

abbrev pub invariant-loop-b : goal.invariant-loop-b
invariant-loop-b l = Filled (λ (k : ℕ). energy (band_of l.edges l.lines k)) l.initial.out l.b l.out
    × Filled (peak_of l.edges l.lines) l.initial.places l.b l.places
