-- `exceeds` meets its contract: two sums, and the comparison. Assumes nothing.
use mathlib.Core.Path.{ap, ap₂, ◌∙◌}
use lib.Ieee.{Float, binary32, lt, mul, of_bits}
use Rattle.measurement_steps.specs.Energy.{total, exceeds}
use Rattle.measurement_steps.proofs.exceeds.Goals as goal

pub returns : goal.returns
unfolding exceeds
returns c = let parts = c.split_at.ensures in
    ap₂ (λ (x y : Float). lt (mul binary32 (of_bits binary32 0x41f00000) x) y) (c.total-2.ensures ∙ ap total parts.front) (c.total.ensures ∙ ap total parts.back)
