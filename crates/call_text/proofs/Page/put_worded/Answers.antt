-- `call_text::Page::put_worded` meets its contract: piece after piece. Assumes nothing.
use Rattle.call_text.specs.Lines.{worded}
use Rattle.call_text.proofs.Pages.{three}
use Rattle.call_text.proofs.Page.put_worded.Goals as goal

pub returns : goal.returns
unfolding worded
returns c = three _ _ _ c.put_bytes.ensures c.put.ensures c.put_decimal.ensures
