-- `listing::line::Text::with_bytes` meets its contract: its array is the pasted one. Assumes nothing.
use mathlib.Core.Path.{ap}
use mathlib.Core.List.{List}
use Prim.Native.Nat.{ℕ, ◌+◌}
use lib.ListN.{length}
use Rattle.listing.specs.Steps.{with}
use Rattle.listing.proofs.Lines.{made}
use Rattle.listing.proofs.line.Text.with_bytes.Goals as goal

pub returns : goal.returns
unfolding with
returns c = let a = c.args in
    ap (λ (b : List ℕ). made b (a.self.len + length a.s.now)) c.put.ensures
