-- `synthesis_steps::copy` meets its contract: one place more, and in the end all of them. Assumes nothing.
use mathlib.Core.Path.{refl}
use native.Mathlib.Omega.{arith}
use lib.Ieee.{nan}
use Rattle.laws.proofs.Lists.{filled_none, filled_more, filled_is}
use Rattle.synthesis_steps.proofs.copy.Goals as goal

pub loop-i-init : goal.loop-i-init
loop-i-init c = filled_none _ _

pub loop-i-preserved : goal.loop-i-preserved
loop-i-preserved c = filled_more _ nan c.loop-i.invariant (omega arith) refl

pub returns : goal.returns
returns c = filled_is nan _ c.loop-i.invariant (omega arith) c.requires (λ k b. refl)
