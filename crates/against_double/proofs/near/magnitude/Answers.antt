-- `near::magnitude` meets its contract: each arm by its test. Assumes nothing.
use Rattle.against_double.specs.Near.{magnitude}
use Rattle.against_double.proofs.near.magnitude.Goals as goal

pub returns-then-x : goal.returns-then-x
unfolding magnitude
returns-then-x c = rw c.if-x.true

pub returns-else-x : goal.returns-else-x
unfolding magnitude
returns-else-x c = rw c.if-x.false
