-- `call_made::play_on` meets its contract: the lines that it reads are what the frame is lent. Assumes nothing.
use Rattle.call_made.proofs.Lends.{lends}
use Rattle.call_made.proofs.Answers.{played-is}
use Rattle.call_made.proofs.play_on.Goals as goal

pub returns : goal.returns
returns c = let f = c.frame-framed in
    let s = c in
    let r = s.read_floats-length in
    let l = lends s.area-x.ensures r.ensures.0 s.count_places-m.ensures in
    record { value = played-is _ f.result _ r.ensures.1 l f.ensures c.told.ensures c.one_area.ensures; lines_after = r.ensures.1 }
