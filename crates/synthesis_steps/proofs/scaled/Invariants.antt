-- `synthesis_steps::scaled` meets its contract. The invariant: the places passed hold the products, and the others are as they were. Assumes nothing.
use lib.ListN.{get_or}
use lib.Ieee.{nan, binary32, mul}
use Rattle.laws.proofs.Lists.{Filled}
use Rattle.synthesis_steps.proofs.scaled.Given as goal

abbrev pub invariant-loop-i : goal.invariant-loop-i
invariant-loop-i l = Filled (λ k. mul binary32 (get_or l.from k nan) l.g) l.initial.to l.i l.to
