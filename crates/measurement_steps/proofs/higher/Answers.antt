-- `higher` meets its contract: one comparison decides. Assumes nothing.
use Rattle.measurement_steps.proofs.higher.Goals as goal

pub returns-then-b-product : goal.returns-then-b-product
returns-then-b-product c = rw c.if-b-product.true

pub returns-else-b-product : goal.returns-else-b-product
returns-else-b-product c = rw c.if-b-product.false
