-- `kf_work::kf_work` meets its contract. At the loop's end all sub-transforms are done, and one stage over them is the transform; so too over the innermost
-- stages. Assumes nothing.
use mathlib.Core.Path.{◌≡◌, refl, sym, ap, ◌∙◌}
use mathlib.Core.List.{List}
use Prim.Native.Nat.{ℕ, ◌+◌, ◌*◌, ◌-◌, ◌<◌, ◌≤◌}
use native.Mathlib.Nat.{mul_comm}
use native.Mathlib.Omega.{arith}
use lib.ListN.{length, get_or, length-drop}
use lib.Ieee.{Float}
use borrow.Rule.Slice.PartMut.{mid_of, same_len_mid}
use Rattle.laws.proofs.Parts.{mid_tail}
use Rattle.complex.specs.Complex.{at}
use Rattle.kf_work.specs.Work.{span}
use Rattle.kf_work.specs.Packed.{packed_work, after}
use Rattle.kf_work.specs.Lent.{WorkFits}
use Rattle.kf_work.proofs.Plan.{Split, Taken, rest_of, plan-cons, taken, inner_positive, whole, table_nums, sub_nums}
use Rattle.kf_work.proofs.Spread.{within-zero}
use Rattle.kf_work.proofs.Stages.{staged, sub_is}
use Rattle.kf_work.proofs.Parts.{call_done, from_on, from_on_length, from_on_at}
use Rattle.kf_work.proofs.Leaves.{leaves_staged}
use Rattle.kf_work.proofs.+kf_work.Goals as goal

-- the plan's first radix, and its inner length
abbrev radix : List ℕ → ℕ
radix ps = get_or ps 0 0

abbrev inner : List ℕ → ℕ
inner ps = get_or ps 1 0

-- the part of a slice from a on
part_length : (a : ℕ) (xs : List Float) → length (mid_of a (length xs - a) xs) ≡ length xs - a
part_length a xs = ap (λ (l : List Float). length l) (mid_tail a xs) ∙ length-drop a xs

module _ (ps : List ℕ) (s o : ℕ) (x y tr ti re im : List Float) (w : WorkFits ps s o x y tr ti re im) where
  first : Split ps (radix ps) (inner ps) (rest_of ps)
  first = plan-cons ps w.radixes (omega (arith, w.stages))

  lower : Taken ps (radix ps) (rest_of ps)
  lower = taken ps w.radixes w.innermost_five w.stages

  -- the stage's twiddles are in both tables, and as many as the rest of the plan reads are left
  here : (2 ≤ radix ps) × (radix ps ≤ 4) × (0 < inner ps) × (inner ps * (radix ps - 1) + inner ps ≡ span ps) × (inner ps * (radix ps - 1) ≤ length tr) × (inner ps * (radix ps - 1) ≤ length ti) × (2 < length ps)
  here =
      let n = table_nums _ _ _ _ first in
      let h = inner_positive _ _ _ _ first in
      (first.at_least, lower.low, h, n, omega (arith, n, h, w.tr_fits), omega (arith, n, h, w.ti_fits), w.stages)

  -- the tables that are lent on
  rest-re : length (from_on (inner ps * (radix ps - 1)) tr) ≡ length tr - inner ps * (radix ps - 1)
  rest-re = from_on_length (inner ps * (radix ps - 1)) tr here.4

  rest-im : length (from_on (inner ps * (radix ps - 1)) ti) ≡ length ti - inner ps * (radix ps - 1)
  rest-im = from_on_length (inner ps * (radix ps - 1)) ti here.5

  lent-on : at (from_on (inner ps * (radix ps - 1)) tr) (from_on (inner ps * (radix ps - 1)) ti) ≡ after (at tr ti) (radix ps) (inner ps)
  lent-on = from_on_at (inner ps * (radix ps - 1)) tr ti

  -- in the loop: the q-th sub-transform's part is in both slices, and its numbers in the input
  sub : (q : ℕ) → q < radix ps → (q * inner ps + inner ps ≤ span ps) × (span (rest_of ps) * (s * radix ps) ≡ span ps * s) × (s * radix ps ≤ span ps * s) × (o + q * s < s * radix ps)
  sub q l = sub_nums _ _ _ _ first s o q w.starts l

pub overflow_sub-k : goal.overflow_sub-k
overflow_sub-k t c = omega (arith, here _ _ _ _ _ _ _ _ _ c.requires)

pub kf_leaves-requires : goal.kf_leaves-requires
kf_leaves-requires t c =
    let w = c.requires in
    let ps = c.args.plan.now in
    let s = c.args.fstride in
    let five = c.if-m-eq5.true in
    let f = first _ _ _ _ _ _ _ _ _ w in
    let h = here _ _ _ _ _ _ _ _ _ w in
    let n = sub _ _ _ _ _ _ _ _ _ w 0 (omega (arith, h)) in
    let e : 5 * (s * radix ps) ≡ span ps * s = ap (λ (k : ℕ). k * (s * radix ps)) (sym five ∙ f.inner) ∙ n.1 in
    let all : radix ps * 5 ≡ span ps = ap (λ (k : ℕ). radix ps * k) (sym five) ∙ whole _ _ _ _ f in (
      omega (arith, h),
      record {
        starts = w.starts;
        x_fits = omega (arith, e, w.x_fits);
        y_fits = omega (arith, e, w.y_fits);
        tr_fits = omega (arith, rest-re _ _ _ _ _ _ _ _ _ w, h, five, w.tr_fits);
        ti_fits = omega (arith, rest-im _ _ _ _ _ _ _ _ _ w, h, five, w.ti_fits);
        re_fits = omega (arith, all, w.re_fits);
        im_fits = omega (arith, all, w.im_fits);
      },
    )

pub kf_fives-requires : goal.kf_fives-requires
kf_fives-requires t c =
    let w = c.requires in
    let ps = c.args.plan.now in
    let h = here _ _ _ _ _ _ _ _ _ w in
    let block : 5 * radix ps ≡ span ps = mul_comm 5 (radix ps) ∙ ap (λ (k : ℕ). radix ps * k) (sym c.if-m-eq5.true) ∙ whole _ _ _ _ (first _ _ _ _ _ _ _ _ _ w) in
    (h.0, h.1, omega (arith, block, w.tr_fits), omega (arith, block, w.ti_fits), omega (arith, block, w.re_fits, c.kf_leaves.auto.re), omega (arith, block, w.im_fits, c.kf_leaves.auto.im))

pub returns-then-m-eq5 : goal.returns-then-m-eq5
returns-then-m-eq5 t c =
    let w = c.requires in
    let a = c.args in
    let five = c.if-m-eq5.true in
    let f = first _ _ _ _ _ _ _ _ _ w in
    let l = lower _ _ _ _ _ _ _ _ _ w in
    leaves_staged (at a.tr.now a.ti.now) _ (at a.x.now a.y.now) a.inverse a.plan.now _ _ _ a.fstride a.from f l.low (lent-on _ _ _ _ _ _ _ _ _ w) five (l.rest_below.innermost (sym f.inner ∙ five)) _ _ _ c.kf_leaves.ensures c.kf_fives.ensures

pub loop-q-init : goal.loop-q-init
loop-q-init t c = (refl, refl, omega arith, within-zero _ _ _)

pub overflow_mul-fstride : goal.overflow_mul-fstride
overflow_mul-fstride t c = omega (arith, sub _ _ _ _ _ _ _ _ _ c.requires c.loop-q.q c.loop-q-test.true, c.requires, c.well_formed)

pub overflow_mul-q-in-loop-q-2 : goal.overflow_mul-q-in-loop-q-2
overflow_mul-q-in-loop-q-2 t c = omega (arith, sub _ _ _ _ _ _ _ _ _ c.requires c.loop-q.q c.loop-q-test.true, c.requires, c.well_formed)

pub overflow_add-from : goal.overflow_add-from
overflow_add-from t c = omega (arith, sub _ _ _ _ _ _ _ _ _ c.requires c.loop-q.q c.loop-q-test.true, c.requires, c.well_formed)

pub kf_work-requires : goal.kf_work-requires
kf_work-requires t c =
    let w = c.requires in
    let lp = c.loop-q in
    let f = first _ _ _ _ _ _ _ _ _ w in
    let h = here _ _ _ _ _ _ _ _ _ w in
    let l = lower _ _ _ _ _ _ _ _ _ w in
    let n = sub _ _ _ _ _ _ _ _ _ w lp.q c.loop-q-test.true in
    let more = l.rest_below.others (λ e. c.if-m-eq5.false (f.inner ∙ e)) in (
      omega (arith, more.1, f.inner, c.decreases),
      record {
        radixes = f.rest-planned;
        innermost_five = l.rest-fives;
        stages = more.0;
        starts = n.3;
        x_fits = omega (arith, n.1, w.x_fits);
        y_fits = omega (arith, n.1, w.y_fits);
        tr_fits = omega (arith, rest-re _ _ _ _ _ _ _ _ _ w, h, f.inner, w.tr_fits);
        ti_fits = omega (arith, rest-im _ _ _ _ _ _ _ _ _ w, h, f.inner, w.ti_fits);
        re_fits = omega (arith, n.0, f.inner, w.re_fits, lp.invariant.0, part_length (lp.q * inner c.args.plan.now) lp.re);
        im_fits = omega (arith, n.0, f.inner, w.im_fits, lp.invariant.1, part_length (lp.q * inner c.args.plan.now) lp.im);
      },
    )

pub loop-q-preserved : goal.loop-q-preserved
loop-q-preserved t c =
    let w = c.requires in
    let a = c.args in
    let ps = a.plan.now in
    let lp = c.loop-q in
    let f = first _ _ _ _ _ _ _ _ _ w in
    let n = sub _ _ _ _ _ _ _ _ _ w lp.q c.loop-q-test.true in (
      same_len_mid _ _ _ _ c.kf_work.auto.re ∙ lp.invariant.0,
      same_len_mid _ _ _ _ c.kf_work.auto.im ∙ lp.invariant.1,
      omega (arith, c.loop-q-test.true),
      call_done (packed_work (after (at a.tr.now a.ti.now) (radix ps) (inner ps)) a.inverse (at a.x.now a.y.now) (rest_of ps) (a.fstride * radix ps)) (inner ps) a.fstride a.from lp.q (here _ _ _ _ _ _ _ _ _ w).2 _
          lp.re lp.im c.kf_work.new.re c.kf_work.new.im (omega (arith, n.0, w.re_fits, lp.invariant.0)) (omega (arith, n.0, w.im_fits, lp.invariant.1)) lp.invariant.3
          (sub_is _ _ (at a.x.now a.y.now) a.inverse (rest_of ps) _ _ _ _ (sym f.inner) (lent-on _ _ _ _ _ _ _ _ _ w) _ _ c.kf_work.ensures),
    )

pub kf_bfly-requires : goal.kf_bfly-requires
kf_bfly-requires t c =
    let w = c.requires in
    let ps = c.args.plan.now in
    let lp = c.loop-q in
    let h = here _ _ _ _ _ _ _ _ _ w in
    let block : inner ps * radix ps ≡ span ps = mul_comm (inner ps) (radix ps) ∙ whole _ _ _ _ (first _ _ _ _ _ _ _ _ _ w) in
    (h.0, h.1, h.2, omega (arith, block, w.tr_fits), omega (arith, block, w.ti_fits), omega (arith, block, w.re_fits, lp.invariant.0), omega (arith, block, w.im_fits, lp.invariant.1))

pub returns : goal.returns
returns t c =
    let w = c.requires in
    let a = c.args in
    let lp = c.loop-q in
    let f = first _ _ _ _ _ _ _ _ _ w in
    let past : lp.q ≡ radix a.plan.now = omega (arith, c.loop-q-test.false, lp.invariant.2) in
    staged (at a.tr.now a.ti.now) (at a.x.now a.y.now) a.inverse a.plan.now _ _ _ a.fstride a.from f (lower _ _ _ _ _ _ _ _ _ w).low _ _ _ (rw (past, whole _ _ _ _ f) at lp.invariant.3) c.kf_bfly.ensures
