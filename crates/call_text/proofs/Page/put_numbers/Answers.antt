-- `call_text::Page::put_numbers` meets its contract: number after number. Assumes nothing.
use mathlib.Core.Path.{subst}
use mathlib.Core.List.{[], append_assoc}
use Rattle.plain_text.specs.Text.{space, decimal}
use Rattle.call_text.specs.Lines.{numbers, worded}
use Rattle.call_text.specs.Pages.{Writes}
use Rattle.call_text.proofs.Pages.{three}
use Rattle.call_text.proofs.Page.put_numbers.Goals as goal

pub returns : goal.returns
unfolding numbers worded
returns c = subst (Writes c.args.self.now c.put.new.self) (simp append_assoc) (three (decimal c.args.a) (worded [] c.args.b) space c.put_decimal.ensures c.put_worded.ensures c.put.ensures)
