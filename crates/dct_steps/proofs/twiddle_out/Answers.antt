-- `dct_steps::twiddle_out` meets its contract. The loop's invariant: the first 2 n places are written. Assumes nothing.
use mathlib.Core.Path.{refl, ap, ap₂, ◌∙◌}
use native.Mathlib.Omega.{arith}
use lib.Ieee.{binary32, mul, neg}
use Rattle.laws.proofs.Lists.{filled_none, filled_all}
use Rattle.complex.specs.declared.Complex.{Complex}
use Rattle.complex.specs.Complex.{at, times}
use Rattle.dct_steps.specs.Dct.{double}
use Rattle.dct_steps.proofs.Placed.{two-more}
use Rattle.dct_steps.proofs.twiddle_out.Goals as goal

pub loop-n-init : goal.loop-n-init
loop-n-init c = (omega arith, filled_none _ _)

pub loop-n-preserved : goal.loop-n-preserved
loop-n-preserved c = let lp = c.loop-n in
    let st = c in
    let g = st.args in
    let l = c.loop-n-test.true in
    let a = c.mul-a.ensures ∙ ap₂ times c.get.ensures c.get-in-loop-n.ensures in
    let b = c.mul-b.ensures ∙ ap₂ times c.get-in-loop-n-2.ensures c.get-in-loop-n-3.ensures in (
      omega (arith, l),
      two-more _ _ (λ n. times (at g.dr.now g.di.now n) (at g.ar.now g.ai.now n)) st.requires.0 lp.n l refl lp.invariant.1 (ap (λ (w : Complex). mul binary32 w.r double) a) (ap (λ (w : Complex). mul binary32 (neg w.i) double) b) c.pair.ensures,
    )

pub shape_of-buf : goal.shape_of-buf
shape_of-buf c = c.loop-n.invariant.1.room

pub returns : goal.returns
returns c = filled_all c.loop-n.invariant.1 (omega (arith, c.loop-n.invariant.0, c.loop-n-test.false, c.requires.0))
