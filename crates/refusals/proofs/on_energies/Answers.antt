-- `refusals::on_energies` meets its contract: its tests are those of the definition, in its order. Assumes nothing.
use mathlib.Core.Path.{sym, ap, ◌∙◌}
use Rattle.refusals.specs.Refusals.{bad_energy}
use Rattle.refusals.proofs.Energies.{gives_1, gives_5, gives_7}
use Rattle.refusals.proofs.Verdicts.{by_first}
use Rattle.refusals.proofs.on_energies.Goals as goal

pub returns-then-not-valid : goal.returns-then-not-valid
returns-then-not-valid c = gives_1 _ _ c.valid.ensures c.if-not-valid.true

pub returns-then-energies-nb : goal.returns-then-energies-nb
returns-then-energies-nb c = gives_5 _ _ c.valid.ensures c.if-not-valid.false c.nb.ensures c.if-energies-nb.true

pub returns-in-Some : goal.returns-in-Some
returns-in-Some c = sym (gives_7 _ _ c.valid.ensures c.if-not-valid.false c.nb.ensures c.if-energies-nb.false ∙ ap (by_first bad_energy) (sym c.first_failing_7.ensures ∙ c.in-Some.is))

pub returns-in-None : goal.returns-in-None
returns-in-None c = sym (gives_7 _ _ c.valid.ensures c.if-not-valid.false c.nb.ensures c.if-energies-nb.false ∙ ap (by_first bad_energy) (sym c.first_failing_7.ensures ∙ c.in-None.is))
