-- `streams::fail` meets its contract: four pieces went out, one after the other. Assumes nothing.
use Rattle.std.proofs.KnownBytes.{Appends-trans}
use Rattle.streams.proofs.fail.Goals as goal

pub returns : goal.returns
returns g c =
    let a = c.write_all.ensures.front in
    let b = c.write_all-2.ensures.front in
    let d = c.write_all-3.ensures.front in
    let e = c.write_all-4.ensures.front in
    (_, Appends-trans _ _ _ _ _ (Appends-trans _ _ _ _ _ (Appends-trans _ _ _ _ _ a.1 b.1) d.1) e.1)
