-- `laws::first_failing_6` meets its contract: where all pass, none fails. Assumes nothing.
use mathlib.Core.Path.{sym, ◌∙◌}
use mathlib.Core.Bool.{true}
use Rattle.laws.specs.Passes.{passes6}
use Rattle.laws.proofs.Lists.{failing_none, folded_all}
use Rattle.laws.proofs.first_failing_6.Goals as goal

pub returns-then-all_pass_6 : goal.returns-then-all_pass_6
returns-then-all_pass_6 c = let x = c.args.x.now in
    sym (failing_none passes6 x (sym (folded_all passes6 x true) ∙ (sym c.all_pass_6.ensures ∙ c.if-all_pass_6.true)))
