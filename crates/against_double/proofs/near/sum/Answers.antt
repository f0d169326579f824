-- `near::sum` meets its contract. Assumes nothing.
use Rattle.std.proofs.Common.{ℕ, ap, ◌∙◌}
use lib.Ieee.{binary64, of_bits}
use Rattle.against_double.specs.Near.{long, sum_of}
use Rattle.against_double.proofs.near.sum.Goals as goal

pub returns : goal.returns
unfolding sum_of
returns c = c.double.ensures ∙ ap (λ (n : ℕ). of_bits binary64 n) (c.long.ensures ∙ ap long c.rest.ensures)
