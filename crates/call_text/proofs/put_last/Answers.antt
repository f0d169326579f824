-- `call_text::put_last` meets its contract: piece after piece. Assumes nothing.
use Rattle.std.proofs.Common.{rules}
use Rattle.call_text.specs.Lines.{last_line}
use Rattle.call_text.proofs.Pages.{two}
use Rattle.call_text.proofs.put_last.Goals as goal

pub returns : goal.returns
unfolding last_line
returns c = let w = two _ _ c.put_worded.ensures c.put.ensures in search (rules, w.same, w.text)
