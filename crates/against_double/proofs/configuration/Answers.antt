-- `configuration` is safe and ends. The measure is the number of frames that are left; nothing has to hold from frame to frame. Assumes nothing.
use Rattle.std.proofs.Common.{arith}
use Rattle.against_double.proofs.configuration.Goals as goal

pub loop-k-init : goal.loop-k-init
loop-k-init c = tt

pub overflow_step-k : goal.overflow_step-k
overflow_step-k c = omega arith

pub loop-k-smaller : goal.loop-k-smaller
loop-k-smaller c = omega arith

pub loop-k-preserved : goal.loop-k-preserved
loop-k-preserved c = tt

pub returns : goal.returns
returns c = tt
