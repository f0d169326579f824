-- `call_made::Bench::made` meets its contract: each arm makes the call of its kind. Assumes nothing.
use borrow.Author.Rules.{rules}
use Rattle.call_made.specs.Made.{made}
use Rattle.call_made.proofs.Bench.made.Goals as goal

pub returns-in-1 : goal.returns-in-1
unfolding made
returns-in-1 c = simp (c.analysed.ensures, c.clear_analysis.ensures, c.in-1.is)

pub returns-in-2 : goal.returns-in-2
unfolding made
returns-in-2 c = simp (c.analysed-in-2.ensures, c.analyse.ensures, c.in-2.is)

pub returns-in-9 : goal.returns-in-9
unfolding made
returns-in-9 c = simp (c.analysed-in-9.ensures, c.set_analysis.ensures, c.in-9.is)

pub returns-in-11 : goal.returns-in-11
unfolding made
returns-in-11 c = simp (c.analysed-in-11.ensures, c.frame.ensures.value, c.in-11.is)

pub returns-in_default : goal.returns-in_default
unfolding made
returns-in_default c = search rules
