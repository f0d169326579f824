-- `lmf_list::fill` meets its contract. The invariant: what is read is a part of the slice, whose length stays. Each read brings something, or is the last. Assumes nothing.
use Prim.Native.Nat.{◌≤◌}
use mathlib.Core.Path.{◌≡◌}
use lib.ListN.{length}
use Rattle.lmf_list.proofs.Reading.{left}
use Rattle.lmf_list.proofs.fill.Given as goal

abbrev pub invariant-loop-input : goal.invariant-loop-input
invariant-loop-input l = (length l.buf ≡ length l.initial.buf) × (l.input.len ≤ length l.buf)

abbrev pub decreases-loop-input : goal.decreases-loop-input
decreases-loop-input l = left (length l.initial.buf) l.input
