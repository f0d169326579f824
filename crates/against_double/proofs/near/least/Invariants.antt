-- `near::least` meets its contract. The invariant: r is the least of the first i values. Assumes nothing.
use Rattle.std.proofs.Common.{◌≡◌}
use Rattle.against_double.specs.Near.{least}
use Rattle.against_double.proofs.near.least.Given as goal

abbrev pub invariant-loop-i : goal.invariant-loop-i
invariant-loop-i l = l.r ≡ least l.values l.b l.p l.i
