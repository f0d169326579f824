-- `call_made::measure` meets its contract: as many lines are read as the count asks for. Assumes nothing.
use mathlib.Core.Path.{◌∙◌}
use Rattle.laws.specs.Lists.{tab}
use Rattle.call_log.specs.Log.{float_of}
use Rattle.call_made.specs.Made.{measure_on, past_floats}
use Rattle.call_made.proofs.Lends.{lends}
use Rattle.call_made.proofs.measure.Goals as goal

pub returns : goal.returns
returns c = let s = c in
    let e = s.rest-input.ensures in
    let l = lends s.area-room.ensures e s.count_places-k.ensures in
    c.measure_read.ensures.value ∙ (λ j. measure_on (c.byte_at.ensures j) (tab (l.long j) (float_of (e j))) (past_floats (e j)))
