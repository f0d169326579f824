-- `synthesis_steps::Unfolding::last_quarter` meets its contract. The invariant: the places passed hold the frame's, and the others are as they were. Assumes nothing.
use Prim.Native.Nat.{◌*◌}
use Rattle.synthesis_steps.proofs.Unfold.{Placed}
use Rattle.synthesis_steps.proofs.Unfolding.last_quarter.Given as goal

abbrev pub invariant-loop-i : goal.invariant-loop-i
invariant-loop-i l = Placed l.self.h l.self.v.now l.self.w.now (3 * l.self.h) l.initial.out l.i l.out
