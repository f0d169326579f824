-- `call_made::measure_after` meets its contract: no call where the frame was refused, else one on its lines. Assumes nothing.
use mathlib.Core.Path.{ap, ◌∙◌}
use mathlib.Core.Bool.{false}
use Rattle.call_text.specs.declared.Extra.TheVariants.{Flag}
use Rattle.call_made.specs.Made.{count, with_peaks}
use Rattle.call_made.proofs.Answers.{unmeasured-is, measured-after}
use Rattle.call_made.proofs.measure_after.Goals as goal

pub returns-then-framed-ne0 : goal.returns-then-framed-ne0
returns-then-framed-ne0 c = let t = c in
    let a = t.args in
    let n = c.count-then-framed-ne0.ensures.value ∙ ap count c.rest.ensures in
    c.with_peaks.ensures
    ∙ (λ j. with_peaks a.framed.told.number a.framed.told.index (Flag false) (t.area.ensures.value j) (c.count.ensures.value j) (c.peaks.ensures.value j) (n j))
    ∙ unmeasured-is a.config a.framed a.lengths.now t.if-framed-ne0.true

pub returns : goal.returns
returns c = let a = c.args in
    c.measure_on.ensures ∙ measured-after a.config a.framed a.lengths.now c.if-framed-ne0.false
