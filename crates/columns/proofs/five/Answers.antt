-- `columns::five` meets its contract: its steps are the definition's, one after the other. Assumes nothing.
use Rattle.laws.specs.Lists.{tab}
use Rattle.columns.proofs.five.Goals as goal

pub returns : goal.returns
unfolding tab
returns c = simp (c.add-4.ensures, c.sub-2.ensures, c.add-3.ensures, c.sub.ensures, c.add-2.ensures, c.add.ensures, c.far-s12.ensures, c.mix-s11.ensures, c.near-s6.ensures, c.mix-s5.ensures, c.sub-s9.ensures, c.add-s8.ensures, c.sub-s10.ensures, c.add-s7.ensures)
