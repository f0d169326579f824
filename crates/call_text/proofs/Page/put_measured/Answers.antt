-- `call_text::Page::put_measured` meets its contract: line after line. Assumes nothing.
use Rattle.call_text.specs.Lines.{area_line, places_line}
use Rattle.call_text.proofs.Pages.{two}
use Rattle.call_text.proofs.Page.put_measured.Goals as goal

pub returns : goal.returns
unfolding area_line places_line
returns c = two _ _ c.put_line.ensures c.put_line-2.ensures
