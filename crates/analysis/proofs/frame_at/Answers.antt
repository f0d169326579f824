-- `frame_at` meets its contract: `frames` goes by the number that the code asks for. Assumes nothing.
use mathlib.Core.Path.{sym, ap}
use Rattle.std.proofs.lemmas.Result.{err_from_is_err_and}
use Rattle.refusals.specs.declared.Verdict.{Verdict}
use Rattle.refusals.proofs.Verdicts as verdicts
use Rattle.analysis.specs.Analysis.{channel_of, lent}
use Rattle.analysis.proofs.Frames.{refused, taken}
use Rattle.analysis.proofs.frame_at.Goals as goal

pub returns-in_err-judge : goal.returns-in_err-judge
returns-in_err-judge c = let a = c.args in
    let p = err_from_is_err_and c.from_residual.result c.from_residual.ensures.1 in
    let why = c.in_err-judge.field-0.0 in
    rw (p.1, p.2)
    (refused (channel_of a.config a.samples.now) (lent a.input.now a.lines.now) _ (ap (λ (v : Verdict). v.number) c.in_err-judge.ensures) (verdicts.refused why))

pub returns : goal.returns
returns c = let a = c.args in
    taken (channel_of a.config a.samples.now) (lent a.input.now a.lines.now) (sym (ap (λ (v : Verdict). v.number) c.in_ok-judge.ensures)) c.step.ensures
