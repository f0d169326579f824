-- `quads::turn` meets its contract. The loop's invariant: the first q parts are written. Assumes nothing.
use mathlib.Core.Path.{◌∙◌}
use Prim.Native.Nat.{◌<◌}
use native.Mathlib.Omega.{arith}
use Rattle.complex.specs.Complex.{at}
use Rattle.quads.specs.Beside.{beside_by}
use Rattle.quads.proofs.Rows.{part_in, place_more}
use Rattle.quads.proofs.turn.Goals as goal

pub turned-v-requires : goal.turned-v-requires
turned-v-requires g c = (omega (arith, g.met.K.Radix.few), c.requires)

pub put-requires : goal.put-requires
put-requires g c =
    let into : c.part.result < g.row.R = rw c.part.ensures ((g.met.K.Radix.through c.args.radix).into c.loop-q.q c.loop-q-test.true) in
    omega (arith, part_in g.row.R c.args.m c.args.i 1 _ (omega (arith, c.requires)) into, c.requires, c.loop-q.invariant)

pub loop-q-preserved : goal.loop-q-preserved
loop-q-preserved g c = let a = c.args in (
  c.put.auto.re ∙ c.loop-q.invariant.0,
  c.put.auto.im ∙ c.loop-q.invariant.1,
  place_more g.row.R a.m (g.K.Radix.order a.radix) (beside_by (g.K.Radix.makes a.radix) (at a.tr.now a.ti.now) a.m) (at a.re.now a.im.now) a.i c.loop-q.q _ c.turned-v.ensures c.loop-q-test.true c.part.ensures c.loop-q.invariant.2 c.put.ensures,
)
