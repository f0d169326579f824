-- `quads::quad` meets its contract. The loop's invariant: the first q parts are written. Assumes nothing.
use mathlib.Core.Path.{◌∙◌}
use Rattle.complex.specs.Complex.{at}
use Rattle.quads.specs.Beside.{beside_by}
use Rattle.quads.proofs.Rows.{row_more}
use Rattle.quads.proofs.quad.Goals as goal

pub loop-q-preserved : goal.loop-q-preserved
loop-q-preserved g c = let a = c.args in (
  c.row.auto.re ∙ c.loop-q.invariant.0,
  c.row.auto.im ∙ c.loop-q.invariant.1,
  row_more g.row.R a.m (g.K.Radix.order a.radix) (beside_by (g.K.Radix.makes a.radix) (at a.tr.now a.ti.now) a.m) (at a.re.now a.im.now) a.j c.loop-q.q _ c.turned-a.ensures c.turned-b.ensures c.turned-c.ensures c.turned-d.ensures c.loop-q-test.true c.part.ensures c.loop-q.invariant.2 c.row.ensures,
)
