-- `call_log::floats` meets its contract. The invariant: the places passed hold the values (`Filled`). Assumes nothing.
use mathlib.Core.Path.{ap, ◌∙◌}
use native.Mathlib.Omega.{arith}
use lib.Ieee.{nan, binary32, of_bits}
use Rattle.laws.proofs.Lists.{filled_none, filled_more, filled_all}
use Rattle.call_log.specs.Log.{word}
use Rattle.call_log.proofs.floats.Goals as goal

pub loop-i-init : goal.loop-i-init
loop-i-init c = filled_none _ _

pub loop-i-preserved : goal.loop-i-preserved
loop-i-preserved c = filled_more _ nan c.loop-i.invariant (omega arith) (c.float.ensures ∙ ap (of_bits binary32) (c.word.ensures ∙ ap word c.rest.ensures))

pub returns : goal.returns
returns c = filled_all c.loop-i.invariant (omega arith)
