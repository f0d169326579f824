-- `call_made::dct` meets its contract: the area that is lent holds the values, and then what the DCT leaves. Assumes nothing.
use Rattle.refusals.specs.Refusals.{told_by}
use Rattle.call_made.proofs.Lends.{lends}
use Rattle.call_made.proofs.Answers.{dct-is}
use Rattle.call_made.proofs.dct.Goals as goal

pub returns : goal.returns
returns c = let s = c in
    let l = lends s.area-x.ensures s.rest.ensures s.count_places-m.ensures in
    let v = c.dct_on-transformed in
    dct-is s.args.b.now (told_by v.result) _ l v.ensures c.told.ensures c.one_area.ensures
