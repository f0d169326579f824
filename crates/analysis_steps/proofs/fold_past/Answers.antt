-- `fold_past` meets its contract. The loop's invariant: the first i places of `out` are filled. Assumes nothing.
use mathlib.Core.Path.{ap₂}
use native.Mathlib.Omega.{arith}
use lib.Ieee.{nan, binary32, sub}
use Rattle.laws.proofs.Lists.{filled_none, filled_more, filled_all}
use Rattle.analysis_steps.proofs.fold_past.Goals as goal

pub loop-i-init : goal.loop-i-init
loop-i-init c = filled_none _ _

pub loop-i-preserved : goal.loop-i-preserved
loop-i-preserved c = filled_more _ nan c.loop-i.invariant (omega arith) (ap₂ (sub binary32) c.weighed.ensures c.weighed-in-loop-i.ensures)

pub returns : goal.returns
returns c = filled_all c.loop-i.invariant (omega arith)
