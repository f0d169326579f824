-- The rule of the gains, by one computed test over all lengths, and a law at each. Assumes nothing.
use lib.Dec.{T}
use lib.Ieee.{of_bits, of_fields, odd}
use lib.Count.{count_trailing_zeros}
use Rattle.laws.specs.Exact.{finite, units, near}
use Rattle.laws.proofs.Table.{every}
use Rattle.config.proofs.Among.{at-among}
use Rattle.gains.specs.Tables.{lengths, gain_bits}
use Rattle.gains.specs.Gains.{gain, rooted, Rules}

test : T (every (λ k nf. rooted nf (gain nf)) 0 lengths)
unfolding lengths gain_bits gain rooted near units finite of_bits of_fields odd count_trailing_zeros
test = tt

pub rules : Rules
rules = record { gain_rooted = at-among (λ nf. rooted nf (gain nf)) lengths test }
