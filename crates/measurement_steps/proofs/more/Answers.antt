-- `more` meets its contract: a share more, and a turn of the scan. Assumes nothing.
use mathlib.Core.Path.{◌∙◌}
use Rattle.measurement_steps.proofs.Peaks.{more_is}
use Rattle.measurement_steps.proofs.more.Goals as goal

pub returns : goal.returns
returns c = let s = c in
    let a = s.args in
    c.higher.ensures ∙ more_is a.width a.lines.now a.i a.b s.requires.1 _ s.requires.0 c.square-p.ensures
