-- `configuration` is safe and ends. The measure is the number of frames that are left; nothing has to hold from frame to frame. Assumes nothing.
use Rattle.std.proofs.Common.{◌-◌}
use Rattle.against_double.proofs.configuration.Given as goal

abbrev pub invariant-loop-k : goal.invariant-loop-k
invariant-loop-k l = Unit {0}

abbrev pub decreases-loop-k : goal.decreases-loop-k
decreases-loop-k l = 5 - l.k
