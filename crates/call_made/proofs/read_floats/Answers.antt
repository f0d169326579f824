-- `call_made::read_floats` meets its contract: the bytes after the values begin where the count says. Assumes nothing.
use mathlib.Core.Path.{ap, ◌∙◌}
use Prim.Native.Nat.{ℕ, ◌+◌, ◌*◌}
use lib.ListN.{drop}
use Rattle.call_made.proofs.read_floats.Goals as goal

pub returns : goal.returns
returns c = let b = c.args.b.now in
    (c.rest.ensures ∙ ap (λ (n : ℕ). drop (2 + 4 * n) b) c.count.ensures.value, c.floats.ensures)
