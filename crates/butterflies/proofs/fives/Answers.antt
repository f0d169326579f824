-- `butterflies::fives` meets its contract: four columns and one are all of five. Assumes nothing.
use mathlib.Core.Path.{refl}
use Rattle.complex.specs.Complex.{at}
use Rattle.quads.specs.Beside.{beside_by}
use Rattle.butterflies.proofs.Columns.{done_five}
use Rattle.butterflies.proofs.Local.{local_by}
use Rattle.butterflies.proofs.fives.Goals as goal

pub returns : goal.returns
returns g c =
    let a = c.args in
    let k = g.K.Radix in
    let laws = g.met.K.Radix in
    let u = at a.tr.now a.ti.now in
    done_five g.row.R 5 (beside_by (k.makes a.radix) u 5) (local_by g.row.R 5 (k.makes a.radix) (laws.sees a.radix) u) (k.order a.radix) (laws.through a.radix) _ _ _ refl c.quad.ensures c.turn.ensures
