-- `call_made::asked_as` meets its contract: the number of bands read stands in the first of the places. Assumes nothing.
use Rattle.call_made.proofs.Answers.{asked-is}
use mathlib.Core.Path.{◌∙◌}
use lib.ListN.{set}
use Rattle.call_text.specs.declared.Extra.TheVariants.{Flag}
use Rattle.call_made.specs.Made.{with_peaks}
use Rattle.call_made.proofs.asked_as.Goals as goal

pub returns : goal.returns
returns c =
    c.with_peaks.ensures
    ∙ (λ j. let v = c.told.ensures j in let s = c.unwrap_or-sooner.ensures j in with_peaks v.number v.index (Flag s.answer) (c.area.ensures.value j) 0 (set (c.peaks-z.ensures.value j) 0 s.read) 1)
    ∙ asked-is c.args.asked
