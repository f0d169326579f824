-- `replay::to_front` holds bytes that are in the input. The invariant: the input keeps its length. The measure is what is left to move. Assumes nothing.
use Prim.Native.Nat.{◌≤◌, ◌+◌}
use mathlib.Core.Path.{◌≡◌}
use lib.ListN.{length}
use Rattle.replay.proofs.to_front.Given as goal

abbrev pub invariant-loop-i : goal.invariant-loop-i
invariant-loop-i l = (length l.input ≡ length l.initial.input) × (l.from + l.n ≤ length l.initial.input)
