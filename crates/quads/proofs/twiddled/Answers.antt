-- `quads::twiddled` meets its contract: the product of what is read. Assumes nothing.
use Rattle.quads.proofs.twiddled.Goals as goal

pub returns : goal.returns
returns c = simp (c.mul.ensures, c.get.ensures, c.get-x.ensures)
