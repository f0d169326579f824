-- `loudest::loudest_band` meets its contract: its verdict is that of the definition's tests. Assumes nothing.
use mathlib.Core.Path.{refl, ap, ◌∙◌}
use Rattle.std.proofs.lemmas.Result.{err_from_is_err_and}
use Rattle.laws.proofs.Bools.{holds}
use Rattle.refusals.proofs.Verdicts.{refused}
use Rattle.refusals.proofs.Energies.{gives-refusal, gives-answer, passed}
use Rattle.loudest.specs.Loudest.{heard, told, refusal}
use Rattle.loudest.proofs.loudest_band.Goals as goal

pub answer-requires : goal.answer-requires
answer-requires c = let p = passed _ _ _ c.in_ok-on_energies.ensures refl in
    (holds p.config, p.bands, p.energies)

pub returns-in_err-on_energies : goal.returns-in_err-on_energies
unfolding heard
returns-in_err-on_energies c = let a = c.args in
    let p = err_from_is_err_and c.from_residual.result c.from_residual.ensures.1 in
    rw (p.1, p.2) (gives-refusal refusal _ a.config a.energies.now _ c.in_err-on_energies.ensures (refused _))

pub returns : goal.returns
unfolding heard
returns c = ap told c.answer.ensures ∙ gives-answer _ _ _ c.in_ok-on_energies.ensures refl refusal _
