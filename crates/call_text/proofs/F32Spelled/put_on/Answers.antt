-- `call_text::F32Spelled::put_on` meets its contract: nan for a NaN, and else the bits. Assumes nothing.
use mathlib.Core.Path.{sym, ◌∙◌, subst}
use Rattle.call_text.specs.Lines.{value}
use Rattle.call_text.specs.Pages.{Writes}
use Rattle.call_text.proofs.Values.{value_is}
use Rattle.call_text.proofs.F32Spelled.put_on.Goals as goal

pub returns-then-is_nan : goal.returns-then-is_nan
unfolding value
returns-then-is_nan c = subst (Writes c.args.page.now c.put_bytes.new.self) (value_is c.args.self (sym c.is_nan.ensures.value ∙ c.if-is_nan.true)) c.put_bytes.ensures

pub returns-else-is_nan : goal.returns-else-is_nan
unfolding value
returns-else-is_nan c = subst (Writes c.args.page.now c.put_bits.new.self) (value_is c.args.self (sym c.is_nan.ensures.value ∙ c.if-is_nan.false)) c.put_bits.ensures
