-- `call_made::clear_synthesis` meets its contract: the clear at the configuration that the call names. Assumes nothing.
use mathlib.Core.Path.{ap, ◌∙◌}
use Rattle.synthesis.specs.Synthesis.{Cleared, cleared}
use Rattle.call_made.specs.Made.{after_clear, clear_synthesis}
use Rattle.call_made.proofs.clear_synthesis.Goals as goal

pub returns : goal.returns
unfolding clear_synthesis
returns c = c.after_clear.ensures ∙ ap (λ (d : Cleared). after_clear c.args.old d.number d.channel) (c.clear.ensures ∙ ap cleared c.byte_at.ensures)
