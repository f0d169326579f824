-- `butterflies::kf_bfly5` meets its contract. The loop's invariant: the first q places are written. Assumes nothing.
use mathlib.Core.Path.{◌≡◌, ap, ◌∙◌, sym}
use mathlib.Core.List.{List}
use Prim.Native.Nat.{ℕ}
use native.Mathlib.Numerals.{add-one}
use native.Mathlib.Omega.{arith}
use lib.ListN.{get_or}
use Rattle.complex.specs.declared.Complex.{Complex}
use Rattle.complex.specs.Complex.{at, upd}
use Rattle.laws.specs.Lists.{tab}
use Rattle.laws.proofs.Lists.{get_or-tab}
use Rattle.columns.specs.Column.{col}
use Rattle.quads.specs.Beside.{beside5}
use Rattle.quads.specs.Rows.{writes}
use Rattle.quads.proofs.Rows.{writes_more}
use Rattle.butterflies.proofs.kf_bfly5.Goals as goal

pub loop-q-preserved : goal.loop-q-preserved
unfolding beside5
loop-q-preserved c =
    let a = c.args in
    let q = c.loop-q.q in
    let f = at a.re.now a.im.now in
    let v = beside5 (at a.tr.now a.ti.now) (col a.column) in
    let turned : c.turned5-v.result ≡ tab 5 v = simp (c.turned5-v.ensures, c.get-2.ensures, c.get.ensures) in (
      c.put.auto.re ∙ c.loop-q.invariant.0,
      c.put.auto.im ∙ c.loop-q.invariant.1,
      writes_more f 0 v q q _ _ (omega arith) c.loop-q.invariant.2 (c.put.ensures ∙ ap (λ (x : Complex). upd (at c.loop-q.re c.loop-q.im) q x) (ap (λ (l : List Complex). get_or l q _) turned ∙ get_or-tab 5 v _ q c.loop-q-test.true))
          ∙ ap (λ (k : ℕ). writes f 0 v k) (sym (add-one q)),
    )

pub returns : goal.returns
returns c =
    let a = c.args in
    let past : c.loop-q.q ≡ 5 = omega (arith, c.loop-q-test.false, c.loop-q.auto) in
    c.loop-q.invariant.2 ∙ ap (λ (k : ℕ). writes (at a.re.now a.im.now) 0 (beside5 (at a.tr.now a.ti.now) (col a.column)) k) past
