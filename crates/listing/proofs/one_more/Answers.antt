-- `listing::one_more` meets its contract. Assumes nothing.
use Prim.Native.Nat.{◌-◌, ◌^◌}
use borrow.Author.Tests.{lt-ltb, le-ltb}
use Rattle.listing.specs.Steps.{counted}
use Rattle.listing.proofs.one_more.Goals as goal

pub returns-then-n-lt18446744073709551615 : goal.returns-then-n-lt18446744073709551615
unfolding counted
returns-then-n-lt18446744073709551615 c = rw (lt-ltb c.args.n (2 ^ 64 - 1) c.if-n-lt18446744073709551615.true)

pub returns-else-n-lt18446744073709551615 : goal.returns-else-n-lt18446744073709551615
unfolding counted
returns-else-n-lt18446744073709551615 c = rw (le-ltb c.args.n (2 ^ 64 - 1) c.if-n-lt18446744073709551615.false)
