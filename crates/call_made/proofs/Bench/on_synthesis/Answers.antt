-- `call_made::Bench::on_synthesis` meets its contract: each arm makes the call of its kind. Assumes nothing.
use borrow.Author.Rules.{rules}
use Rattle.call_made.specs.Made.{on_synthesis}
use Rattle.call_made.proofs.Bench.on_synthesis.Goals as goal

pub returns-in-3 : goal.returns-in-3
unfolding on_synthesis
returns-in-3 c = simp (c.played.ensures, c.clear_synthesis.ensures, c.in-3.is)

pub returns-in-4 : goal.returns-in-4
unfolding on_synthesis
returns-in-4 c = simp (c.played-in-4.ensures, c.play.ensures, c.in-4.is)

pub returns-in-10 : goal.returns-in-10
unfolding on_synthesis
returns-in-10 c = simp (c.played-in-10.ensures, c.set_synthesis.ensures, c.in-10.is)

pub returns-in_default : goal.returns-in_default
unfolding on_synthesis
returns-in_default c = search rules
