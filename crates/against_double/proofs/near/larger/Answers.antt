-- `near::larger` meets its contract: each arm by its test. Assumes nothing.
use Rattle.against_double.proofs.near.larger.Goals as goal

pub returns-then-a-b : goal.returns-then-a-b
returns-then-a-b c = rw c.if-a-b.true

pub returns-else-a-b : goal.returns-else-a-b
returns-else-a-b c = rw c.if-a-b.false
