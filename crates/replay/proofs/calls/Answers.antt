-- `replay::calls` is safe and ends. The invariant: the bytes that are not used yet are in the input, and both buffers keep their lengths. The measure
-- is how far the count is from its largest. Assumes nothing.
use Prim.Native.Nat.{◌+◌, ◌-◌, ◌≤◌}
use mathlib.Core.Path.{refl, ◌∙◌}
use lib.ListN.{drop}
use native.Mathlib.Omega.{arith}
use Rattle.replay.proofs.Parts.{at_most}
use Rattle.replay.proofs.calls.Goals as goal

pub loop-count-init : goal.loop-count-init
loop-count-init c = (refl, refl, c.requires)

pub overflow_add-unused : goal.overflow_add-unused
overflow_add-unused c = let r = c.ready-unused in
    omega (arith, at_most (r.result.to - r.result.from) (drop r.result.from r.new.input), c.step-step.ensures.used_in_bounds, r.ensures)

pub shape_of-input-then-step-eq0 : goal.shape_of-input-then-step-eq0
shape_of-input-then-step-eq0 c = c.ready-unused.auto.input ∙ c.loop-count.invariant.0

pub shape_of-out-then-step-eq0 : goal.shape_of-out-then-step-eq0
shape_of-out-then-step-eq0 c = c.step-step.auto.out ∙ c.loop-count.invariant.1

pub loop-count-preserved : goal.loop-count-preserved
loop-count-preserved c = let r = c.ready-unused in
    let s = c.step-step in
    let l = c.loop-count in
    let used : r.result.from + s.result.used ≤ r.result.to = omega (arith, at_most (r.result.to - r.result.from) (drop r.result.from r.new.input), s.ensures.used_in_bounds, r.ensures) in
    (r.auto.input ∙ l.invariant.0, s.auto.out ∙ l.invariant.1, record { ordered = used; inside = r.ensures.inside })
