-- `configurations` is safe and ends. The measure is the count of the numbers that are left; nothing has to hold from one to the next. Assumes nothing.
use Rattle.std.proofs.Common.{◌-◌}
use Rattle.against_double.proofs.configurations.Given as goal

abbrev pub invariant-loop-c : goal.invariant-loop-c
invariant-loop-c l = Unit {0}

abbrev pub decreases-loop-c : goal.decreases-loop-c
decreases-loop-c l = 255 - l.c
