-- `call_made::play` meets its contract: as many lines are read as the count asks for. Assumes nothing.
use mathlib.Core.Path.{◌∙◌}
use Rattle.laws.specs.Lists.{tab}
use Rattle.call_log.specs.Log.{float_of}
use Rattle.call_made.specs.Made.{play_on, past_floats}
use Rattle.call_made.proofs.Lends.{lends}
use Rattle.call_made.proofs.play.Goals as goal

pub returns : goal.returns
returns c = let s = c in
    let e = s.rest-input.ensures in
    let l = lends s.area-room.ensures e s.count_places-k.ensures in
    c.play_on.ensures.value ∙ (λ j. play_on s.args.channel (tab (l.long j) (float_of (e j))) (past_floats (e j)))
