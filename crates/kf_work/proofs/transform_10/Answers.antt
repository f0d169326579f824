-- `kf_work::transform_10` meets its contract. The loop's invariant: the first q innermost stages are done. Four columns and one are all of the stage above
-- them, and that is the transform by the plan of 10. Assumes nothing.
use mathlib.Core.Path.{◌≡◌, refl, ap, ◌∙◌}
use mathlib.Core.Bool.{false}
use mathlib.Core.List.{[], ◌∷◌}
use Prim.Native.Nat.{ℕ, ◌+◌, ◌*◌}
use native.Mathlib.Omega.{arith}
use borrow.Rule.Slice.PartMut.{same_len_mid}
use Rattle.complex.specs.declared.Complex.{Complex}
use Rattle.complex.specs.Complex.{at}
use Rattle.laws.specs.Lists.{tab}
use Rattle.columns.specs.Column.{two}
use Rattle.quads.specs.Beside.{beside_by}
use Rattle.quads.specs.Rows.{in_turn, turned_columns}
use Rattle.quads.specs.Radix.{sees2, in_turn_lem}
use Rattle.butterflies.proofs.Columns.{done_five}
use Rattle.butterflies.proofs.Local.{local_by}
use Rattle.kf_work.specs.Work.{plan, planned, within}
use Rattle.kf_work.specs.Packed.{after, packed_column, innermost, packed_spectrum}
use Rattle.kf_work.proofs.Plan.{split}
use Rattle.kf_work.proofs.Spread.{within-zero}
use Rattle.kf_work.proofs.Stages.{blocks}
use Rattle.kf_work.proofs.Parts.{from_on_at}
use Rattle.kf_work.proofs.Leaves.{leaf_more, leaves_staged}
use Rattle.kf_work.proofs.Sizes.{are_lists}
use Rattle.kf_work.proofs.transform_10.Goals as goal

-- the stage over both innermost ones, by the plan of 10
staged-10 : (u v x f g h k : ℕ → Complex) → v ≡ after u 2 5 → g ≡ within (2 * 5) (blocks (innermost v x 2) 5 1 0) f
    → h ≡ turned_columns 4 2 5 in_turn (beside_by two u 5) 0 g → k ≡ turned_columns 1 2 5 in_turn (beside_by two u 5) 4 h → k ≡ within 10 (packed_spectrum u false 10 x) f
unfolding plan planned packed_column packed_spectrum
staged-10 u v x f g h k same done quad one =
    leaves_staged u v x false (plan 10) 2 5 (5 ∷ 1 ∷ []) 1 0 (split 2 5 (5 ∷ 1 ∷ []) tt) (omega arith) same refl refl f g k done (done_five 2 5 (beside_by two u 5) (local_by 2 5 two sees2 u) in_turn (in_turn_lem 2) g h k refl quad one)

pub loop-q-init : goal.loop-q-init
loop-q-init c = (refl, refl, omega arith, within-zero 5 _ _)

pub loop-q-preserved : goal.loop-q-preserved
loop-q-preserved c = let lp = c.loop-q in
    let st = c in
    let a = st.args in
    let x = at a.x.now a.y.now in
    let read : c.copied-column.result ≡ tab 5 (λ j. x (0 + lp.q * 1 + j * 2)) = c.copied-column.ensures ∙ ap (λ (k : ℕ). tab 5 (λ j. x (k + j * 2))) {x = lp.q} {y = 0 + lp.q * 1} (omega arith) in (
      same_len_mid _ _ _ _ c.kf_bfly5.auto.re ∙ lp.invariant.0,
      same_len_mid _ _ _ _ c.kf_bfly5.auto.im ∙ lp.invariant.1,
      omega (arith, c.loop-q-test.true),
      leaf_more _ x 2 1 0 lp.q _ lp.re lp.im c.kf_bfly5.new.re c.kf_bfly5.new.im _ (omega (arith, c.loop-q-test.true, lp.invariant.0, st.requires.4)) (omega (arith, c.loop-q-test.true, lp.invariant.1, st.requires.5)) lp.invariant.3 read c.kf_bfly5.ensures,
    )

pub returns : goal.returns
returns c = let st = c in
    let lp = c.loop-q in
    let quad = c.quad in
    let one = c.turn in
    let u = at st.args.tr.now st.args.ti.now in
    let x = at st.args.x.now st.args.y.now in
    let past : lp.q ≡ 2 = omega (arith, lp.invariant.2, c.loop-q-test.false) in
    rw st.requires.0
    (are_lists 10 (packed_spectrum u false 10 x) _ _ _ (one.auto.re ∙ quad.auto.re ∙ lp.invariant.0 ∙ st.requires.4) (one.auto.im ∙ quad.auto.im ∙ lp.invariant.1 ∙ st.requires.5)
    (staged-10 u _ x _ _ _ _ (from_on_at 5 st.args.tr.now st.args.ti.now) (rw past at lp.invariant.3) quad.ensures one.ensures))
