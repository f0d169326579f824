-- `synthesis_steps::remaining` meets its contract: the places of the two calls are those that follow on one another. Assumes nothing.
use Prim.Native.Nat.{◌+◌, ◌*◌}
use native.Mathlib.Omega.{arith}
use Rattle.synthesis_steps.specs.Places.{places}
use Rattle.synthesis_steps.proofs.Lists.{two-places}
use Rattle.synthesis_steps.proofs.Unfold.{length-places}
use Rattle.synthesis_steps.proofs.Lengths.{made-remains}
use Rattle.synthesis_steps.proofs.remaining.Goals as goal

pub returns : goal.returns
returns c = let a = c.args in
    let p = c.requires in
    let t = places a.h a.v.now a.w.now in
    let n = length-places a.h a.v.now a.w.now p.2 p.3 in
    let parts = c.split_at_mut-third.ensures in
    made-remains (2 * a.h) a.z t (omega (arith, p.1)) (omega (arith, n)) a.memory.now p.5
    (two-places _ _ (2 * a.h + a.z) t (omega (arith, p, parts.front_len)) (omega (arith, p, parts.front_len, parts.back_len)) c.third_quarter.ensures c.last_quarter.ensures)
