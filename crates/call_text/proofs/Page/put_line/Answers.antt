-- `call_text::Page::put_line` meets its contract: the name, and the places. Assumes nothing.
use Rattle.call_text.proofs.Pages.{line}
use Rattle.call_text.proofs.Page.put_line.Goals as goal

pub returns : goal.returns
returns g c = line _ _ _ c.put_bytes.ensures c.put_places.ensures
