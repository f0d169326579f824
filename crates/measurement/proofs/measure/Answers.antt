-- `measure` meets its contract: a refusal leaves what was lent, and what is not refused has the definition's energies, peaks and flag. Assumes nothing.
use Rattle.std.proofs.lemmas.Result.{err_from_is_err_and}
use Rattle.measurement.specs.Measurement.{lent}
use Rattle.measurement.proofs.Verdicts.{refused, made}
use Rattle.measurement.proofs.measure.Goals as goal

pub returns-in_err-judge : goal.returns-in_err-judge
returns-in_err-judge c = let a = c.args in
    let p = err_from_is_err_and c.from_residual.result c.from_residual.ensures.1 in
    rw (p.1, p.2) (refused a.config (lent a.lines.now a.energies.now a.peaks.now) _ c.in_err-judge.ensures)

pub returns : goal.returns
returns c = let a = c.args in
    let wrote = c.apply_energy_estimation.ensures in
    made a.config (lent a.lines.now a.energies.now a.peaks.now) _ _ _ c.in_ok-judge.ensures wrote.0 wrote.1 c.is_near_nyquist.ensures
