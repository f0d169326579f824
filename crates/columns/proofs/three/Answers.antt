-- `columns::three` meets its contract: its steps are the definition's, one after the other. Assumes nothing.
use Rattle.laws.specs.Lists.{tab}
use Rattle.columns.proofs.three.Goals as goal

pub returns : goal.returns
unfolding tab
returns c = simp (c.minus_quarter.ensures, c.plus_quarter.ensures, c.add.ensures, c.scaled-s0.ensures, c.sub-d.ensures, c.sub-x.ensures, c.scaled.ensures, c.add-s3.ensures)
