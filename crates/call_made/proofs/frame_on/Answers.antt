-- `call_made::frame_on` meets its contract: the samples that it reads are what the frame is lent. Assumes nothing.
use mathlib.Core.Path.{sym, subst}
use Rattle.call_log.specs.Log.{Places}
use Rattle.call_made.specs.declared.Answer.{Answer}
use Rattle.call_made.proofs.Lends.{lends, still}
use Rattle.call_made.proofs.Answers.{framed_is}
use Rattle.call_made.proofs.frame_on.Goals as goal

pub returns : goal.returns
returns c = let f = c.frame-framed in
    let s = c in
    let l = lends s.area-x.ensures s.past_samples.ensures s.count_places-m.ensures in
    let read = s.samples.ensures in
    let places = subst (λ (a : Answer). Places a.m a.x) (sym c.one_area.ensures) (still _ _ f.new.lines s.count_places-m.ensures.places f.auto.lines) in
    record { value = framed_is _ f.result _ read l f.ensures c.told-number.ensures c.one_area.ensures; places = places; input_after = read }
