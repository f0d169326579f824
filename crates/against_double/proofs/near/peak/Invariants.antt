-- `near::peak` meets its contract. The invariant: p is the peak of the first i sums. Assumes nothing.
use Rattle.std.proofs.Common.{◌≡◌}
use Rattle.against_double.specs.Near.{peak}
use Rattle.against_double.proofs.near.peak.Given as goal

abbrev pub invariant-loop-i : goal.invariant-loop-i
invariant-loop-i l = l.p ≡ peak l.b l.i
