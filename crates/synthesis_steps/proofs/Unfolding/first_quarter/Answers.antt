-- `synthesis_steps::Unfolding::first_quarter` meets its contract. The invariant: the places passed hold the past and the frame's together, and the others are as they were. Assumes nothing.
use Prim.Native.Nat.{◌+◌}
use native.Mathlib.Omega.{arith}
use Rattle.laws.proofs.Lists.{filled_none}
use Rattle.synthesis_steps.proofs.Mirrors.{place_first}
use Rattle.synthesis_steps.proofs.Unfold.{one_sum, all_summed}
use Rattle.synthesis_steps.proofs.Unfolding.first_quarter.Goals as goal

pub loop-i-init : goal.loop-i-init
loop-i-init c = filled_none _ _

pub loop-i-preserved : goal.loop-i-preserved
loop-i-preserved c = let a = c.args in
    let u = a.self in
    let l = c.loop-i in
    one_sum u.h u.v.now u.w.now u.values u.window a.past.now a.from l.invariant (omega arith) (omega arith) c.factor.ensures (place_first u.h u.v.now u.values (a.from + l.i) _ (omega arith) (omega arith))

pub returns : goal.returns
returns c = let a = c.args in
    let u = a.self in
    all_summed u.h u.v.now u.w.now u.values u.window a.past.now a.from c.loop-i.invariant (omega arith) c.requires.1 (omega arith)
