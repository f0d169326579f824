-- `near::nearness` meets its contract. Assumes nothing.
use Rattle.std.proofs.Common.{length, ap, ◌∙◌}
use lib.Ieee.{Float}
use Rattle.against_double.specs.Near.{least}
use Rattle.against_double.proofs.near.nearness.Goals as goal

pub returns : goal.returns
returns c = c.least.ensures ∙ ap (λ (p : Float). least c.args.values.now c.args.b.now p (length c.args.values.now)) c.peak.ensures
