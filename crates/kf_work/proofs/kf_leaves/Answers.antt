-- `kf_work::kf_leaves` meets its contract. The loop's invariant: the first q innermost stages are done. Assumes nothing.
use mathlib.Core.Path.{◌≡◌, refl, ◌∙◌}
use Prim.Native.Nat.{◌+◌, ◌*◌}
use native.Mathlib.Omega.{arith}
use lib.ListN.{get_or}
use borrow.Rule.Slice.PartMut.{same_len_mid}
use Rattle.complex.specs.Complex.{at}
use Rattle.laws.specs.Lists.{tab}
use Rattle.kf_work.proofs.Spread.{within-zero}
use Rattle.kf_work.proofs.Leaves.{leaf_more, leaf_in}
use Rattle.kf_work.proofs.kf_leaves.Goals as goal

pub bounds-plan-0 : goal.bounds-plan-0
bounds-plan-0 c = omega (arith, c.requires.0)

pub overflow_mul-s : goal.overflow_mul-s
overflow_mul-s c = omega (arith, c.requires.1.x_fits, c.well_formed)

pub loop-q-init : goal.loop-q-init
loop-q-init c = (refl, refl, omega arith, refl, within-zero 5 _ _)

pub bounds-plan-0-in-loop-q : goal.bounds-plan-0-in-loop-q
bounds-plan-0-in-loop-q c = omega (arith, c.requires.0)

pub overflow_mul-q : goal.overflow_mul-q
overflow_mul-q c = omega (arith, leaf_in c.args.fstride _ _ _ _ c.requires.1.starts c.loop-q-test.true c.requires.1.x_fits, c.well_formed)

pub overflow_add-from : goal.overflow_add-from
overflow_add-from c = omega (arith, leaf_in c.args.fstride _ _ _ _ c.requires.1.starts c.loop-q-test.true c.requires.1.x_fits, c.well_formed)

pub copied-column-requires : goal.copied-column-requires
copied-column-requires c = omega (arith, leaf_in c.args.fstride _ _ _ _ c.requires.1.starts c.loop-q-test.true c.requires.1.x_fits, leaf_in c.args.fstride _ _ _ _ c.requires.1.starts c.loop-q-test.true c.requires.1.y_fits, c.loop-q.invariant.3)

pub kf_bfly5-requires : goal.kf_bfly5-requires
kf_bfly5-requires c = omega (arith, c.loop-q-test.true, c.loop-q.invariant.0, c.loop-q.invariant.1, c.requires)

pub overflow_add-q : goal.overflow_add-q
overflow_add-q c = omega (arith, c.loop-q-test.true, c.requires, c.well_formed)

pub loop-q-smaller : goal.loop-q-smaller
loop-q-smaller c = omega (arith, c.loop-q-test.true)

pub loop-q-preserved : goal.loop-q-preserved
loop-q-preserved c = let lp = c.loop-q in
    let a = c.args in
    let u = at a.tr.now a.ti.now in
    let x = at a.x.now a.y.now in
    let s = a.fstride * get_or a.plan.now 0 0 in
    let o = a.from + lp.q * a.fstride in
    let read : c.copied-column.result ≡ tab 5 (λ q. x (o + q * s)) = rw lp.invariant.3 at c.copied-column.ensures in (
      same_len_mid _ _ _ _ c.kf_bfly5.auto.re ∙ lp.invariant.0,
      same_len_mid _ _ _ _ c.kf_bfly5.auto.im ∙ lp.invariant.1,
      omega (arith, c.loop-q-test.true),
      lp.invariant.3,
      leaf_more u x s a.fstride a.from lp.q _ lp.re lp.im c.kf_bfly5.new.re c.kf_bfly5.new.im _ (omega (arith, c.loop-q-test.true, lp.invariant.0, c.requires.1.re_fits)) (omega (arith, c.loop-q-test.true, lp.invariant.1, c.requires.1.im_fits)) lp.invariant.4 read c.kf_bfly5.ensures,
    )

pub shape_of-re : goal.shape_of-re
shape_of-re c = c.loop-q.invariant.0

pub shape_of-im : goal.shape_of-im
shape_of-im c = c.loop-q.invariant.1

pub returns : goal.returns
returns c = let past : c.loop-q.q ≡ get_or c.args.plan.now 0 0 = omega (arith, c.loop-q.invariant.2, c.loop-q-test.false) in
    rw past at c.loop-q.invariant.4
