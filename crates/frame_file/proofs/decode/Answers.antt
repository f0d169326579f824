-- `frame_file::decode` meets its contract. The invariant: the samples passed are decoded. Assumes nothing.
use mathlib.Core.Path.{ap, ◌∙◌}
use native.Mathlib.Omega.{arith}
use lib.IntN.{pos}
use Rattle.laws.proofs.Lists.{filled_none, filled_more, filled_all}
use Rattle.frame_file.specs.File.{signed, samples}
use Rattle.frame_file.proofs.Signed.{stored}
use Rattle.frame_file.proofs.decode.Goals as goal

pub loop-i-init : goal.loop-i-init
loop-i-init c = filled_none _ _

pub loop-i-preserved : goal.loop-i-preserved
loop-i-preserved c = let j = c.join.ensures in
    filled_more _ (pos 0) c.loop-i.invariant (omega arith) (stored c.join.result _ c.sample.ensures (omega arith) ∙ ap signed j)

pub returns : goal.returns
unfolding samples
returns c = filled_all c.loop-i.invariant (omega arith)
