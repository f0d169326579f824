-- `call_made::analyse` meets its contract: the measurement comes after the frame, with the length that follows the frame's. Assumes nothing.
use mathlib.Core.Path.{ap, ◌∙◌}
use lib.ListN.{drop}
use Rattle.call_made.specs.Made.{past_samples, called, measure_after, both, analyse}
use Rattle.call_made.proofs.analyse.Goals as goal

pub measure_after-energies-requires : goal.measure_after-energies-requires
measure_after-energies-requires c = c.frame-framed.ensures.places

pub returns : goal.returns
unfolding analyse
returns c = let s = c in
    let a = s.args in
    let f = s.frame-framed in
    let e = c.rest-2.ensures ∙ ap (drop 2) (c.past_samples-lengths.ensures ∙ ap past_samples s.rest.ensures) in
    ap (called f.result.channel) (c.both.ensures ∙ ap (both f.result.answer) c.measure_after-energies.ensures)
    ∙ (λ j. let r = f.ensures.value j in called r.channel (both r.answer (measure_after a.channel.config r.answer (e j))))
