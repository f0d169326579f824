-- `call_made::measure_on` meets its contract: the lines that it is handed are what is measured. Assumes nothing.
use mathlib.Core.Path.{refl}
use Rattle.call_made.proofs.Lends.{lends}
use Rattle.call_made.proofs.Answers.{measured-is}
use Rattle.call_made.proofs.measure_on.Goals as goal

pub returns : goal.returns
returns c = let f = c.measure-measured in
    let s = c in
    let t = c in
    let u = lends t.area-x.ensures refl t.count_places-m.ensures in
    let v = lends t.peaks-z.ensures s.rest.ensures s.count_places-o.ensures in
    measured-is _ _ f.result _ _ u v f.ensures c.told.ensures c.unwrap_or-flag.ensures c.with_peaks.ensures
