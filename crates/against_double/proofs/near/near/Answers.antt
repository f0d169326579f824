-- `near::near` meets its contract. Assumes nothing.
use Rattle.std.proofs.Common.{ap, ◌∙◌}
use lib.Ieee.{Float, binary64, sub}
use Rattle.against_double.specs.Near.{doublings, magnitude}
use Rattle.against_double.proofs.near.near.Goals as goal

pub returns : goal.returns
returns c = c.doublings.ensures
    ∙ ap (λ (d : Float). doublings 60 d c.args.p) (c.magnitude.ensures ∙ ap (λ (x : Float). magnitude (sub binary64 x c.args.s)) c.f32_to_f64_with_nan.ensures)
