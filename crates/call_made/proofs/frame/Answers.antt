-- `call_made::frame` meets its contract: as many samples are read as the count asks for. Assumes nothing.
use mathlib.Core.Path.{refl, ◌∙◌}
use Rattle.laws.specs.Lists.{tab}
use Rattle.call_log.specs.Log.{sample_of}
use Rattle.call_made.specs.Made.{frame_on, past_samples}
use Rattle.call_made.proofs.Lends.{lends}
use Rattle.call_made.proofs.frame.Goals as goal

pub returns : goal.returns
returns c = let s = c in
    let e = s.rest-input.ensures in
    let l = lends (record { value = refl; places = refl }) e s.count_places-k.ensures in
    let r = c.frame_on.ensures in
    record { value = r.value ∙ (λ j. frame_on s.args.channel (tab (l.long j) (sample_of (e j))) (past_samples (e j))); places = r.places }
