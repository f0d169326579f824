-- `columns::two` meets its contract: the ensures of the sum and the difference. Assumes nothing.
use Rattle.laws.specs.Lists.{tab}
use Rattle.columns.proofs.two.Goals as goal

pub returns : goal.returns
unfolding tab
returns c = simp (c.sub.ensures, c.add.ensures)
