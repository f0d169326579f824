-- `columns::four` meets its contract in both directions: its steps are the definition's, one after the other. Assumes nothing.
use Rattle.laws.specs.Lists.{tab}
use Rattle.columns.proofs.four.Goals as goal

pub returns-then-inverse : goal.returns-then-inverse
unfolding tab
returns-then-inverse c = rw c.if-inverse.true (simp (c.minus_quarter.ensures, c.sub.ensures, c.plus_quarter.ensures, c.add.ensures, c.sub-s4.ensures, c.add-s3.ensures, c.add-b.ensures, c.sub-s5.ensures))

pub returns : goal.returns
unfolding tab
returns c = rw c.if-inverse.false (simp (c.plus_quarter-2.ensures, c.sub-2.ensures, c.minus_quarter-2.ensures, c.add-2.ensures, c.sub-s4.ensures, c.add-s3.ensures, c.add-b.ensures, c.sub-s5.ensures))
