-- `near_nyquist::first_above` meets its contract. The invariant: the sum is that of the first i energies, and none up to it exceeds the bound. Assumes nothing.
use mathlib.Core.Path.{◌≡◌}
use mathlib.Core.Bool.{true, not}
use Prim.Native.Nat.{ℕ, ◌<◌}
use lib.ListN.{get_or}
use lib.Ieee.{nan, lt}
use Rattle.laws.specs.Numbers.{zero32}
use Rattle.measurement_steps.proofs.Sums.{Summed}
use Rattle.near_nyquist.specs.Sooner.{running}
use Rattle.near_nyquist.proofs.first_above.Given as goal

abbrev pub invariant-loop-i : goal.invariant-loop-i
invariant-loop-i l = Summed (λ x. x) zero32 l.energies l.i l.sum × ((k : ℕ) → k < l.i → not (lt l.bound (get_or (running l.energies) k nan)) ≡ true)
