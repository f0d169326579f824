-- `laws::passes_6` meets its contract: its two comparisons are `between_is`. Assumes nothing.
use mathlib.Core.Path.{sym, ap, ◌∙◌}
use mathlib.Core.Bool.{Bool, ◌&&◌}
use lib.Ieee.{Float, neg, le, of_bits}
use Rattle.laws.proofs.Passes.{two60, between_is}
use Rattle.laws.proofs.passes_6.Goals as goal

abbrev upper : Float → Bool → Bool
upper x b = b && le x two60

pub returns-then-x : goal.returns-then-x
unfolding of_bits neg
returns-then-x c = ap (upper c.args.x) (sym c.if-x.true) ∙ between_is c.args.x

pub returns-else-x : goal.returns-else-x
unfolding of_bits neg
returns-else-x c = c.if-x.false ∙ (ap (upper c.args.x) (sym c.if-x.false) ∙ between_is c.args.x)
