-- `call_made::fresh` meets its contract: each part is what its function gives. Assumes nothing.
use mathlib.Core.Path.{◌∙◌}
use Rattle.call_made.specs.Made.{fresh, bench_of}
use Rattle.call_made.proofs.fresh.Goals as goal

pub returns : goal.returns
unfolding fresh
returns c = c.bench_of.ensures ∙ (λ j. bench_of (c.clear-a.ensures j).channel (c.clear-s.ensures j).channel (c.plain.ensures j))
