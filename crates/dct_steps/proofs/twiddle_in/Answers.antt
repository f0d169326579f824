-- `dct_steps::twiddle_in` meets its contract. The loop's invariant: the first n points are in place, and the count back is as far from the end. Assumes nothing.
use mathlib.Core.Path.{◌≡◌, refl, ap, ap₂, ◌∙◌}
use Prim.Native.Nat.{ℕ, ◌+◌, ◌-◌, ◌*◌}
use native.Mathlib.Omega.{arith}
use lib.Ieee.{nan}
use lib.ListN.{length, get_or}
use Rattle.complex.specs.Complex.{parts, at, times}
use Rattle.kf_work.proofs.Spread.{within_none, filled}
use Rattle.kf_work.proofs.Sizes.{are_lists}
use Rattle.dct_steps.specs.Dct.{point}
use Rattle.dct_steps.proofs.twiddle_in.Goals as goal

pub loop-n-init : goal.loop-n-init
loop-n-init c = (refl, refl, omega arith, refl, omega arith, within_none _ _)

pub loop-n-preserved : goal.loop-n-preserved
loop-n-preserved c = let lp = c.loop-n in
    let taken = c.loop-n-test.true in
    let st = c in
    let a = st.args in
    let k : lp.back - 2 + 1 ≡ length a.buf.now - 2 * lp.n - 1 = omega (arith, lp.invariant.2, lp.invariant.3, lp.invariant.4, taken, st.requires) in
    let v = c.new-v.ensures ∙ ap (λ (j : ℕ). parts (get_or a.buf.now (2 * lp.n) nan) (get_or a.buf.now j nan)) k in (
      c.put.auto.re ∙ lp.invariant.0,
      c.put.auto.im ∙ lp.invariant.1,
      omega (arith, taken),
      lp.invariant.3,
      omega (arith, lp.invariant.2, lp.invariant.3, lp.invariant.4, taken, st.requires),
      filled lp.n (point (at a.dr.now a.di.now) a.buf.now) _ _ _ _ lp.invariant.5 (c.mul.ensures ∙ ap₂ times c.get-w.ensures v) c.put.ensures,
    )

pub returns : goal.returns
returns c = let lp = c.loop-n in
    let st = c in
    let past : lp.n ≡ length st.args.xr.now = omega (arith, lp.invariant.2, lp.invariant.3, c.loop-n-test.false) in
    are_lists _ _ _ _ _ lp.invariant.0 (lp.invariant.1 ∙ st.requires.3) (rw past at lp.invariant.5)
