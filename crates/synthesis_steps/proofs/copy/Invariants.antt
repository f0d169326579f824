-- `synthesis_steps::copy` meets its contract. The invariant: the first i places hold those of `from`. Assumes nothing.
use lib.Ieee.{nan}
use lib.ListN.{get_or}
use Rattle.laws.proofs.Lists.{Filled}
use Rattle.synthesis_steps.proofs.copy.Given as goal

abbrev pub invariant-loop-i : goal.invariant-loop-i
invariant-loop-i l = Filled (λ k. get_or l.from k nan) l.initial.to l.i l.to
