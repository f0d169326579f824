-- `replay::last` meets its contract: each branch writes its word. Assumes nothing.
use mathlib.Core.Path.{sym, ap, ◌∙◌}
use mathlib.Core.Bool.{Bool}
use Rattle.call_text.specs.Page.{page, written}
use Rattle.replay.specs.Steps.{last_text}
use Rattle.replay.proofs.last.Goals as goal

pub returns-then-is_end : goal.returns-then-is_end
returns-then-is_end c = let a = c.args in
    c.put_last.ensures ∙ ap (λ (e : Bool). written (page a.out.now a.at) (last_text e a.count)) (sym c.if-is_end.true)

pub returns : goal.returns
returns c = let a = c.args in
    c.put_last-2.ensures ∙ ap (λ (e : Bool). written (page a.out.now a.at) (last_text e a.count)) (sym c.if-is_end.false)
