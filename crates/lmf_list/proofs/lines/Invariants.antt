-- `lmf_list::lines` meets its contract. The invariant: what waits is a part of the slice, whose length stays, and the frames listed can be counted. Each round counts a
-- frame more or is the last. Assumes nothing.
use Prim.Native.Nat.{◌-◌, ◌^◌, ◌≤◌}
use mathlib.Core.Path.{◌≡◌}
use lib.ListN.{length}
use Rattle.lmf_list.proofs.Stepping.{listed, to_go}
use Rattle.lmf_list.proofs.lines.Given as goal

abbrev pub invariant-loop-step : goal.invariant-loop-step
invariant-loop-step l = (length l.out ≡ length l.initial.out) × (64 ≤ length l.initial.out) × (l.output.len ≤ length l.out) × (length l.room ≡ 960) × (listed l.step.stepped ≤ 2 ^ 64 - 1)

abbrev pub decreases-loop-step : goal.decreases-loop-step
decreases-loop-step l = to_go l.step.stepped
