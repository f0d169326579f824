-- `many` meets its contract. The loop's invariant: what the band has come to after its first fours of lines. Assumes nothing.
use mathlib.Core.Path.{◌≡◌}
use Prim.Native.Nat.{◌*◌}
use Rattle.measurement_steps.specs.Peak.{up_to}
use Rattle.measurement_steps.proofs.many.Given as goal

abbrev pub invariant-loop-q : goal.invariant-loop-q
invariant-loop-q l = l.b ≡ up_to l.width l.lines (4 * l.q)
