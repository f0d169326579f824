-- `listing::line::Text::with_number` meets its contract: the digits that `io::decimal` gives are `decimal`'s. Assumes nothing.
use mathlib.Core.Path.{ap, ◌∙◌}
use native.Mathlib.Omega.{arith}
use lib.ListN.{length}
use Rattle.listing.specs.Steps.{with}
use Rattle.plain_text.proofs.Decimal.{decimal_is, length-decimal}
use Rattle.listing.proofs.line.Text.with_number.Goals as goal

pub with_bytes-requires : goal.with_bytes-requires
with_bytes-requires c = let n = c.args.n in
    let d = c.decimal-k in
    let e = d.ensures.digits ∙ decimal_is n d.result d.ensures.len in
    omega (arith, ap length e, length-decimal n c.ranges.n.fits, c.requires)

pub returns : goal.returns
returns c = let n = c.args.n in
    let d = c.decimal-k in
    let e = d.ensures.digits ∙ decimal_is n d.result d.ensures.len in
    c.with_bytes.ensures ∙ ap (with c.args.self) e
