-- `call_text::put_call` meets its contract: piece after piece. Assumes nothing.
use Rattle.std.proofs.Common.{rules}
use Rattle.call_text.specs.Lines.{call_text}
use Rattle.call_text.proofs.Pages.{three}
use Rattle.call_text.proofs.put_call.Goals as goal

pub returns : goal.returns
unfolding call_text
returns c = let w = three _ _ _ c.put_numbers.ensures c.put_answer.ensures c.put_areas.ensures in search (rules, w.same, w.text)
