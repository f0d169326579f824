-- `refusals::on_values` meets its contract: the first value that fails is the definition's. Assumes nothing.
use mathlib.Core.Path.{sym, ap, ◌∙◌}
use Rattle.refusals.specs.Refusals.{bad_value}
use Rattle.refusals.proofs.Verdicts.{by_first, values_by}
use Rattle.refusals.proofs.on_values.Goals as goal

pub returns-in-Some : goal.returns-in-Some
returns-in-Some c = sym (values_by _ ∙ ap (by_first bad_value) (sym c.first_failing_6.ensures ∙ c.in-Some.is))

pub returns-in-None : goal.returns-in-None
returns-in-None c = sym (values_by _ ∙ ap (by_first bad_value) (sym c.first_failing_6.ensures ∙ c.in-None.is))
