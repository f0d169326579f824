-- `scale` meets its contract. The loop's invariant: the values passed are scaled, the others as they were. Assumes nothing.
use lib.ListN.{get_or}
use lib.Ieee.{nan, binary32, mul}
use Rattle.laws.proofs.Lists.{Filled}
use Rattle.analysis_steps.proofs.scale.Given as goal

abbrev pub invariant-loop-x : goal.invariant-loop-x
invariant-loop-x l = Filled (λ k. mul binary32 (get_or l.initial.buf k nan) l.gain) l.initial.buf l.x-index l.buf
