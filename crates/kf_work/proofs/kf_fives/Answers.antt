-- `kf_work::kf_fives` meets its contract: each arm knows its radix. Assumes nothing.
use Rattle.kf_work.specs.Packed.{packed_column}
use Rattle.kf_work.proofs.kf_fives.Goals as goal

pub returns-in-2 : goal.returns-in-2
unfolding packed_column
returns-in-2 c = rw c.in-2.is c.fives.ensures

pub returns-in-3 : goal.returns-in-3
unfolding packed_column
returns-in-3 c = rw (c.in-3.is, ← c.get-y.ensures) c.fives-in-3.ensures
