-- `synthesis_steps::Unfolding::first_quarter` meets its contract. The invariant: the places passed hold the past and the frame's together, and the others are as they were. Assumes nothing.
use Rattle.synthesis_steps.proofs.Unfold.{Summed}
use Rattle.synthesis_steps.proofs.Unfolding.first_quarter.Given as goal

abbrev pub invariant-loop-i : goal.invariant-loop-i
invariant-loop-i l = Summed l.self.h l.self.v.now l.self.w.now l.past l.from l.initial.out l.i l.out
