-- `near::least` meets its contract. The invariant: r is the least of the first i values. Assumes nothing.
use Rattle.std.proofs.Common.{◌≡◌, ℕ, rules, min, get_or, sym, refl, ap, ◌∙◌}
use lib.Ieee.{Float, nan}
use Rattle.against_double.specs.Near.{least, near}
use Rattle.against_double.proofs.Steps.{least_more}
use Rattle.against_double.proofs.near.least.Goals as goal

pub loop-i-init : goal.loop-i-init
unfolding least
loop-i-init c = refl

pub loop-i-preserved : goal.loop-i-preserved
loop-i-preserved c =
    let m : c.min-r.result ≡ min c.loop-i.r c.near.result = search rules in
    m
    ∙ ap (λ (x : ℕ). min x c.near.result) c.loop-i.invariant
    ∙ ap (λ (x : ℕ). min (least c.args.values.now c.args.b.now c.args.p c.loop-i.i) x) (c.near.ensures ∙ ap (λ (s : Float). near (get_or c.args.values.now c.loop-i.i nan) s c.args.p) c.sum.ensures)
    ∙ sym (least_more c.args.values.now c.args.b.now c.args.p c.loop-i.i)
