-- `several` meets its contract. The loop's invariant: what the band has come to after the lines passed. Assumes nothing.
use mathlib.Core.Path.{◌≡◌}
use Rattle.measurement_steps.specs.Peak.{up_to}
use Rattle.measurement_steps.proofs.several.Given as goal

abbrev pub invariant-loop-k : goal.invariant-loop-k
invariant-loop-k g l = l.b ≡ up_to l.width l.lines l.k
