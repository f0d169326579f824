-- `listing::line::Text::numbered` meets its contract: a number and then bytes. Assumes nothing.
use mathlib.Core.Path.{◌≡◌, ap, ◌∙◌}
use native.Mathlib.Omega.{arith}
use lib.ListN.{length}
use Rattle.listing.specs.declared.line.Text.{Text}
use Rattle.plain_text.specs.Text.{decimal}
use Rattle.listing.specs.Steps.{with}
use Rattle.plain_text.proofs.Decimal.{length-decimal}
use Rattle.listing.proofs.Lines.{with_len, with-with}
use borrow.Author.Rules.{rules}
use Rattle.listing.proofs.line.Text.numbered.Goals as goal

pub with_bytes-requires : goal.with_bytes-requires
with_bytes-requires c = let a = c.args in
    let e = ap (λ (t : Text). t.len) c.with_number.ensures ∙ with_len a.self (decimal a.n) in
    omega (arith, e, length-decimal a.n c.ranges.n.fits, c.requires)

pub returns : goal.returns
returns c = let a = c.args in
    let full : length a.self.bytes ≡ 64 = search rules in
    c.with_bytes.ensures ∙ ap (λ (t : Text). with t a.s.now) c.with_number.ensures ∙ with-with a.self (decimal a.n) a.s.now (omega (arith, c.requires))
