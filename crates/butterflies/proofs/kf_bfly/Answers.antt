-- `butterflies::kf_bfly` meets its contract. The invariant of both loops: the columns below the next are turned, the others are not. Assumes nothing.
use native.Mathlib.Omega.{arith}
use Rattle.complex.specs.Complex.{at}
use Rattle.quads.specs.Beside.{beside_by}
use Rattle.butterflies.proofs.Columns.{no_quad, no_single, quad_more, single_more, all_turned}
use Rattle.butterflies.proofs.Local.{local_by}
use Rattle.butterflies.proofs.kf_bfly.Goals as goal

pub loop-q-init : goal.loop-q-init
loop-q-init g c = no_quad

pub loop-q-preserved : goal.loop-q-preserved
loop-q-preserved g c =
    let a = c.args in
    let k = g.K.Radix in
    let laws = g.met.K.Radix in
    let u = at a.tr.now a.ti.now in
    quad_more g.row.R a.m (beside_by (k.makes a.radix) u a.m) (local_by g.row.R a.m (k.makes a.radix) (laws.sees a.radix) u) (k.order a.radix) (laws.through a.radix) c.loop-q.invariant c.loop-q-test.true c.quad.auto.re c.quad.auto.im c.quad.ensures

pub loop-i-init : goal.loop-i-init
loop-i-init g c = no_single (omega arith)

pub loop-i-preserved : goal.loop-i-preserved
loop-i-preserved g c =
    let a = c.args in
    let k = g.K.Radix in
    let laws = g.met.K.Radix in
    let u = at a.tr.now a.ti.now in
    single_more g.row.R a.m (beside_by (k.makes a.radix) u a.m) (local_by g.row.R a.m (k.makes a.radix) (laws.sees a.radix) u) (k.order a.radix) (laws.through a.radix) c.loop-i.invariant c.loop-i-test.true c.turn.auto.re c.turn.auto.im c.turn.ensures

pub returns : goal.returns
returns g c = all_turned c.requires.0 c.loop-q.invariant c.loop-q-test.false c.loop-i.invariant c.loop-i-test.false
