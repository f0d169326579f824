-- `call_text::Page::put_decimal` meets its contract: the digits that the kit writes are `decimal`. Assumes nothing.
use mathlib.Core.Path.{subst, ◌∙◌}
use Rattle.plain_text.proofs.Decimal.{decimal_is}
use Rattle.call_text.specs.Pages.{Writes}
use Rattle.call_text.proofs.Page.put_decimal.Goals as goal

pub returns : goal.returns
returns c = subst (Writes c.args.self.now c.put_bytes.new.self) (c.decimal-k.ensures.digits ∙ decimal_is c.args.n c.decimal-k.result c.decimal-k.ensures.len) c.put_bytes.ensures
