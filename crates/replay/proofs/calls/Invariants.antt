-- `replay::calls` is safe and ends. The invariant: the bytes that are not used yet are in the input, and both buffers keep their lengths. The measure
-- is how far the count is from its largest. Assumes nothing.
use mathlib.Core.Path.{◌≡◌}
use lib.ListN.{length}
use Rattle.replay.specs.Unused.{Unused}
use Rattle.replay.proofs.calls.Given as goal

abbrev pub invariant-loop-count : goal.invariant-loop-count
invariant-loop-count l = (length l.input ≡ length l.initial.input) × (length l.out ≡ length l.initial.out) × Unused l.unused.from l.unused.to (length l.input)
