-- `synthesis_steps::overlap_add` meets its contract: the samples that the memory is added to, then those without it. Assumes nothing.
use Prim.Native.Nat.{◌*◌}
use native.Mathlib.Omega.{arith}
use Rattle.synthesis_steps.specs.Places.{places}
use Rattle.synthesis_steps.proofs.Unfold.{length-places}
use Rattle.synthesis_steps.proofs.Lengths.{made-output}
use Rattle.synthesis_steps.proofs.overlap_add.Goals as goal

pub returns-clause-samples : goal.returns-clause-samples
returns-clause-samples c = let a = c.args in
    let p = c.requires in
    let t = places a.h a.v.now a.w.now in
    let n = length-places a.h a.v.now a.w.now p.2 p.3 in
    made-output (2 * a.h) a.z t (omega (arith, p.1)) (omega (arith, n)) a.memory.now p.5 _ c.overlapped.ensures c.third_quarter.ensures (omega (arith, p, c.split_at_mut-summed.ensures.back_len))
