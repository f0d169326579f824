-- `call_text::Page::put_bits` meets its contract: the digits that the kit writes are eight. Assumes nothing.
use mathlib.Core.Path.{subst, ◌∙◌}
use Rattle.call_text.specs.Pages.{Writes}
use Rattle.call_text.proofs.Values.{hex_is}
use Rattle.call_text.proofs.Page.put_bits.Goals as goal

pub returns : goal.returns
returns c = subst (Writes c.args.self.now c.put_bytes.new.self) (c.hex-k.ensures.digits ∙ hex_is c.args.bits c.hex-k.result c.ranges.bits.fits c.hex-k.ensures.len) c.put_bytes.ensures
