-- `call_text::Page::put_channel` meets its contract: what a channel's line begins with, and the places. Assumes nothing.
use Rattle.call_text.proofs.Pages.{line}
use Rattle.call_text.proofs.Page.put_channel.Goals as goal

pub returns : goal.returns
returns g c = line _ _ _ c.put_worded.ensures c.put_places.ensures
