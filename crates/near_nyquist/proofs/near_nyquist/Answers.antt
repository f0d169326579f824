-- `near_nyquist::near_nyquist` meets its contract: its verdict is that of the definition's tests. Assumes nothing.
use mathlib.Core.Path.{refl}
use Rattle.std.proofs.lemmas.Result.{err_from_is_err_and}
use Rattle.laws.proofs.Bools.{holds}
use Rattle.refusals.proofs.Energies as tested
use Rattle.near_nyquist.proofs.Answers.{refused, passed}
use Rattle.near_nyquist.proofs.near_nyquist.Goals as goal

pub answer-requires : goal.answer-requires
answer-requires c = let p = tested.passed _ _ _ c.in_ok-on_energies.ensures refl in
    (holds p.config, p.bands)

pub returns-in_err-on_energies : goal.returns-in_err-on_energies
returns-in_err-on_energies c = let a = c.args in
    let p = err_from_is_err_and c.from_residual.result c.from_residual.ensures.1 in
    rw (p.1, p.2) (refused a.config a.energies.now _ c.in_err-on_energies.ensures)

pub returns : goal.returns
returns c = passed c.args.config c.args.energies.now c.answer.result c.in_ok-on_energies.ensures c.answer.ensures
