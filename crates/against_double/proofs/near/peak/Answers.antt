-- `near::peak` meets its contract. The invariant: p is the peak of the first i sums. Assumes nothing.
use Rattle.std.proofs.Common.{sym, refl, ap, ◌∙◌}
use lib.Ieee.{Float}
use Rattle.against_double.specs.Near.{peak, larger, magnitude}
use Rattle.against_double.proofs.Steps.{peak-more}
use Rattle.against_double.proofs.near.peak.Goals as goal

pub loop-i-init : goal.loop-i-init
unfolding peak
loop-i-init c = refl

pub loop-i-preserved : goal.loop-i-preserved
loop-i-preserved c =
    c.larger-p.ensures
    ∙ ap (λ (x : Float). larger x c.magnitude.result) c.loop-i.invariant
    ∙ ap (λ (x : Float). larger (peak c.args.b.now c.loop-i.i) x) (c.magnitude.ensures ∙ ap magnitude c.sum.ensures)
    ∙ sym (peak-more c.args.b.now c.loop-i.i)
