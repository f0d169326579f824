-- `call_text::Page::put` meets its contract: where there is room the byte is written, and else nothing. Assumes nothing.
use mathlib.Core.Path.{refl}
use Rattle.call_text.proofs.Pages.{room, full}
use Rattle.call_text.proofs.Page.put.Goals as goal

pub returns-then-self : goal.returns-then-self
returns-then-self c = let p = c.args.self.now in
    record { same = refl; text = room p.out.now p.at c.args.b c.if-self.true }

pub returns-else-self : goal.returns-else-self
returns-else-self c = let p = c.args.self.now in
    record { same = refl; text = full p.out.now p.at c.args.b c.if-self.false }
