-- `laws::passes_7` meets its contract: its two comparisons are `above_is`. Assumes nothing.
use mathlib.Core.Path.{sym, ap, ◌∙◌}
use mathlib.Core.Bool.{Bool, false, ◌&&◌}
use lib.Ieee.{Float, inf, lt, of_bits}
use Rattle.laws.proofs.Passes.{above_is}
use Rattle.laws.proofs.passes_7.Goals as goal

abbrev upper : Float → Bool → Bool
upper x b = b && lt x (inf false)

pub returns-then-x : goal.returns-then-x
unfolding of_bits
returns-then-x c = ap (upper c.args.x) (sym c.if-x.true) ∙ above_is c.args.x

pub returns-else-x : goal.returns-else-x
unfolding of_bits
returns-else-x c = c.if-x.false ∙ (ap (upper c.args.x) (sym c.if-x.false) ∙ above_is c.args.x)
