-- `call_made::plain` meets its contract: both areas are as before a call. Assumes nothing.
use mathlib.Core.Path.{ap, ◌∙◌}
use mathlib.Core.List.{List}
use lib.Ieee.{Float}
use Rattle.call_text.specs.declared.Extra.TheVariants.{Nothing}
use Rattle.call_made.specs.Made.{one}
use Rattle.call_made.proofs.plain.Goals as goal

pub returns : goal.returns
returns c = c.one_area.ensures ∙ ap (λ (x : List Float). one c.args.number 0 Nothing x 0) c.area.ensures.value
