-- `call_text::Page::put_answer` meets its contract: piece after piece. Assumes nothing.
use Rattle.call_text.specs.Lines.{answer}
use Rattle.call_text.proofs.Pages.{three}
use Rattle.call_text.proofs.Page.put_answer.Goals as goal

pub returns : goal.returns
unfolding answer
returns c = three _ _ _ c.put_numbers.ensures c.put_extra.ensures c.put.ensures
