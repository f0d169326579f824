-- `synthesis_steps::scaled` meets its contract. The invariant: the places passed hold the products, and the others are as they were. Assumes nothing.
use mathlib.Core.Path.{refl}
use native.Mathlib.Omega.{arith}
use lib.Ieee.{Float, nan, binary32, mul}
use Rattle.laws.proofs.Lists.{filled_none, filled_more, filled_map}
use Rattle.gains.specs.Gains.{scaled}
use Rattle.synthesis_steps.proofs.scaled.Goals as goal

pub loop-i-init : goal.loop-i-init
loop-i-init c = filled_none _ _

pub loop-i-preserved : goal.loop-i-preserved
loop-i-preserved c = filled_more _ nan c.loop-i.invariant (omega arith) refl

pub returns : goal.returns
unfolding scaled
returns c = filled_map (λ (x : Float). mul binary32 x c.args.g) nan c.args.from.now c.loop-i.invariant (omega arith) c.requires
