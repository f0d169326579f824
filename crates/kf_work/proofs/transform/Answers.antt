-- `kf_work::transform` meets its contract: the factors that are lent are the plan of an accepted size. Assumes nothing.
use mathlib.Core.Path.{◌∙◌}
use native.Mathlib.Omega.{arith}
use Rattle.complex.specs.Complex.{at}
use Rattle.kf_work.proofs.Sizes.{sized, by_plan}
use Rattle.kf_work.proofs.transform.Goals as goal

pub kf_work-requires : goal.kf_work-requires
kf_work-requires c = let st = c in
    let s = sized _ st.requires.0.0 in
    let pre = st.requires.0 in
    rw st.requires.3 (record {
      radixes = s.plan_radixes;
      innermost_five = s.plan_fives;
      stages = s.stages;
      starts = omega arith;
      x_fits = omega (arith, s.whole);
      y_fits = omega (arith, s.whole, pre.1);
      tr_fits = omega (arith, s.whole, st.requires.1);
      ti_fits = omega (arith, s.whole, st.requires.2);
      re_fits = omega (arith, s.whole, pre.2);
      im_fits = omega (arith, s.whole, pre.3);
    })

pub returns : goal.returns
returns c = let st = c in
    let w = c.kf_work in
    by_plan _ (sized _ st.requires.0.0) (at st.args.tr.now st.args.ti.now) (at st.args.x.now st.args.y.now) _ st.args.inverse _ _ _ st.requires.3 (w.auto.re ∙ st.requires.0.2) (w.auto.im ∙ st.requires.0.3) w.ensures
