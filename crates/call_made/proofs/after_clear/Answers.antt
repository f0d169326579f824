-- `call_made::after_clear` meets its contract: the old channel where the clear was refused. Assumes nothing.
use mathlib.Core.Path.{ap, ◌∙◌}
use mathlib.Core.Logic.{inl, inr}
use Rattle.refusals.specs.declared.Verdict.{Verdict}
use Rattle.call_made.proofs.Answers.{after-is}
use Rattle.call_made.proofs.after_clear.Goals.{then-number-eq0, else-number-eq0}
use Rattle.call_made.proofs.after_clear.Goals as goal

pub returns : goal.returns
returns g c =
    c.called_as.ensures
    ∙ after-is c.args.old c.args.cleared.channel _ _ _ (ap (λ (v : Verdict). v.number) c.told-number.ensures)
    (elim c.if-number-eq0.branch [ then-number-eq0 w ↦ inl (w.if-number-eq0.true, w.channel-is) | else-number-eq0 w ↦ inr (w.if-number-eq0.false, w.channel-is) ])
