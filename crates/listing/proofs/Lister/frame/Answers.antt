-- `listing::Lister::frame` meets its contract: line and next state from what the calls ensure. Assumes nothing.
use mathlib.Core.Path.{ap, ap₂, ◌∙◌}
use Prim.Native.Nat.{ℕ}
use lib.ListN.{length}
use Rattle.listing.specs.declared.line.Text.{Text}
use Rattle.listing.specs.declared.frame.Listened.{Listened}
use Rattle.listing.specs.declared.Stepped.{Stepped}
use Rattle.listing.specs.Steps.{framed}
use Rattle.listing.proofs.Lister.frame.Goals as goal

abbrev made : ℕ → Listened → Text → ℕ → Stepped
made n m t k = record { text = t; used = n; lister = record { channel = m.channel; count = k } }

pub returns : goal.returns
returns c = let a = c.args in
    let n = length a.bytes.now in
    let m = c.listen_to-measured.result in
    ap₂ (made n m) c.frame_line-text.ensures c.one_more.ensures ∙ ap (framed a.self n) c.listen_to-measured.ensures
