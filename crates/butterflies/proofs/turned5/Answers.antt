-- `butterflies::turned5` meets its contract: the products are those of the definition. Assumes nothing.
use Rattle.butterflies.proofs.turned5.Goals as goal

pub returns : goal.returns
returns c = simp (c.five.ensures, c.mul-4.ensures, c.mul-3.ensures, c.mul-2.ensures, c.mul.ensures, c.new-w.ensures)
