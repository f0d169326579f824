-- `call_log::samples` meets its contract. The invariant: the places passed hold the samples (`Filled`). Assumes nothing.
use mathlib.Core.Path.{ap, ◌∙◌}
use native.Mathlib.Omega.{arith}
use lib.IntN.{pos}
use Rattle.laws.proofs.Lists.{filled_none, filled_more, filled_all}
use Rattle.frame_file.specs.File.{short, signed}
use Rattle.frame_file.proofs.Signed.{stored}
use Rattle.call_log.proofs.samples.Goals as goal

pub loop-i-init : goal.loop-i-init
loop-i-init c = filled_none _ _

pub loop-i-preserved : goal.loop-i-preserved
loop-i-preserved c = let e = c.short.ensures ∙ ap short c.rest.ensures in
    filled_more _ (pos 0) c.loop-i.invariant (omega arith) (stored c.short.result _ c.sample.ensures (omega arith) ∙ ap signed e)

pub returns : goal.returns
returns c = filled_all c.loop-i.invariant (omega arith)
