-- `scale` meets its contract. The loop's invariant: the values passed are scaled, the others as they were. Assumes nothing.
use mathlib.Core.Path.{refl}
use native.Mathlib.Omega.{arith}
use lib.Ieee.{Float, nan, binary32, mul}
use Rattle.laws.proofs.Lists.{filled_none, mapped_more, filled_map}
use Rattle.gains.specs.Gains.{scaled}
use Rattle.analysis_steps.proofs.scale.Goals as goal

pub loop-x-init : goal.loop-x-init
loop-x-init c = filled_none _ _

pub loop-x-preserved : goal.loop-x-preserved
loop-x-preserved c = mapped_more (λ (x : Float). mul binary32 x c.args.gain) nan c.loop-x.invariant (omega arith)

pub returns : goal.returns
unfolding scaled
returns c = filled_map (λ (x : Float). mul binary32 x c.args.gain) nan c.args.buf.now c.loop-x.invariant (omega arith) refl
