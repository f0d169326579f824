-- `synthesis::frame_at` meets its contract: `frames` goes by the verdict that the code asks for. Assumes nothing.
use mathlib.Core.Path.{sym, ap}
use Rattle.std.proofs.lemmas.Result.{err_from_is_err_and}
use Rattle.refusals.specs.declared.Verdict.{Verdict}
use Rattle.refusals.proofs.Verdicts as verdicts
use Rattle.synthesis.specs.Synthesis.{channel_of, lent}
use Rattle.synthesis.proofs.Frames.{refused-by, taken}
use Rattle.synthesis.proofs.frame_at.Goals as goal

pub returns-in_err-judge : goal.returns-in_err-judge
returns-in_err-judge c = let a = c.args in
    let p = err_from_is_err_and c.from_residual.result c.from_residual.ensures.1 in
    rw (p.1, p.2)
    (refused-by (channel_of a.config a.memory.now) (lent a.lines.now a.samples.now) _ c.in_err-judge.ensures (verdicts.refused c.in_err-judge.field-0.0))

pub returns : goal.returns
returns c = let a = c.args in
    let s = c.step.ensures in
    taken (channel_of a.config a.memory.now) (lent a.lines.now a.samples.now) (sym (ap (λ (v : Verdict). v.number) c.in_ok-judge.ensures)) s.memory s.samples
