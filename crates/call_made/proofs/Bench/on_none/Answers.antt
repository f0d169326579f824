-- `call_made::Bench::on_none` meets its contract: each arm makes the call of its kind. Assumes nothing.
use borrow.Author.Rules.{rules}
use Rattle.call_made.specs.Made.{on_none}
use Rattle.call_made.proofs.Bench.on_none.Goals as goal

pub returns-in-5 : goal.returns-in-5
unfolding on_none
returns-in-5 c = simp (c.answered.ensures, c.fft.ensures, c.in-5.is)

pub returns-in-6 : goal.returns-in-6
unfolding on_none
returns-in-6 c = simp (c.answered-in-6.ensures, c.dct.ensures, c.in-6.is)

pub returns-in-7 : goal.returns-in-7
unfolding on_none
returns-in-7 c = simp (c.answered-in-7.ensures, c.loudest.ensures, c.in-7.is)

pub returns-in-12 : goal.returns-in-12
unfolding on_none
returns-in-12 c = simp (c.answered-in-12.ensures, c.measure.ensures, c.in-12.is)

pub returns-in-14 : goal.returns-in-14
unfolding on_none
returns-in-14 c = simp (c.answered-in-14.ensures, c.ask.ensures, c.in-14.is)

pub returns-in_default : goal.returns-in_default
unfolding on_none
returns-in_default c = search rules
