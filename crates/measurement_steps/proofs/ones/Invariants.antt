-- `ones` meets its contract. The loop's invariant: the first b places of both slices are filled. Assumes nothing.
use Prim.Native.Nat.{ℕ}
use lib.ListN.{take, drop}
use Rattle.laws.proofs.Lists.{Filled}
use Rattle.measurement_steps.specs.Energy.{energy}
use Rattle.measurement_steps.proofs.ones.Given as goal

abbrev pub invariant-loop-b : goal.invariant-loop-b
invariant-loop-b l = Filled (λ (k : ℕ). energy (take 1 (drop k l.lines))) l.initial.out l.b l.out × Filled (λ (k : ℕ). k) l.initial.places l.b l.places
