-- `call_made::past_samples` meets its contract: the bytes after the samples begin where the count says. Assumes nothing.
use mathlib.Core.Path.{ap, ◌∙◌}
use Prim.Native.Nat.{ℕ, ◌+◌, ◌*◌}
use lib.ListN.{drop}
use Rattle.call_made.proofs.past_samples.Goals as goal

pub returns : goal.returns
returns c = c.rest.ensures ∙ ap (λ (n : ℕ). drop (2 + 2 * n) c.args.b.now) c.count.ensures.value
