-- `call_text::put_show` meets its contract: piece after piece. Assumes nothing.
use Rattle.std.proofs.Common.{rules}
use Rattle.call_text.specs.Lines.{show_text, analysis_line, synthesis_line}
use Rattle.call_text.proofs.Pages.{two, three}
use Rattle.call_text.proofs.put_show.Goals as goal

pub returns : goal.returns
unfolding show_text analysis_line synthesis_line
returns c = let w = three _ _ _ c.put_numbers.ensures c.put_answer.ensures (two _ _ c.put_channel.ensures c.put_channel-2.ensures) in search (rules, w.same, w.text)
