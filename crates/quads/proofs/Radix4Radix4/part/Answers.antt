-- `Radix4::part` meets its contract, in each direction. Assumes nothing.
use mathlib.Core.Path.{refl}
use Rattle.quads.specs.Rows.{exchanged}
use Rattle.quads.proofs.Read.{exchanged_is}
use Rattle.quads.proofs.Radix4Radix4.part.Goals as goal

pub returns-then-self : goal.returns-then-self
returns-then-self c = rw c.if-self.true (exchanged_is c.args.q c.requires)

pub returns-else-self : goal.returns-else-self
unfolding exchanged
returns-else-self c = rw c.if-self.false refl
