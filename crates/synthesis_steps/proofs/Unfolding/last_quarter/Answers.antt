-- `synthesis_steps::Unfolding::last_quarter` meets its contract. The invariant: the places passed hold the frame's, and the others are as they were. Assumes nothing.
use mathlib.Core.Path.{refl}
use Prim.Native.Nat.{◌+◌, ◌*◌}
use native.Mathlib.Omega.{arith}
use Rattle.laws.proofs.Lists.{filled_none}
use Rattle.synthesis_steps.proofs.Mirrors.{place_last}
use Rattle.synthesis_steps.proofs.Unfold.{one_more, all_placed}
use Rattle.synthesis_steps.proofs.Unfolding.last_quarter.Goals as goal

pub loop-i-init : goal.loop-i-init
loop-i-init c = filled_none _ _

pub loop-i-preserved : goal.loop-i-preserved
loop-i-preserved c = let a = c.args in
    let u = a.self in
    let l = c.loop-i in
    one_more u.h u.v.now u.w.now u.values u.window (3 * u.h) l.invariant (omega arith) (omega arith) c.factor.ensures (place_last u.h u.v.now u.values (3 * u.h + l.i) _ (omega arith) refl)

pub returns : goal.returns
returns c = let a = c.args in
    let u = a.self in
    all_placed u.h u.v.now u.w.now u.values u.window (3 * u.h) c.loop-i.invariant (omega arith) (omega arith)
