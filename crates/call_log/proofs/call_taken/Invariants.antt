-- `call_log::call_taken` meets its contract. The invariant: the fields that are left, from the place reached, are the whole call, and the place is within
-- the bytes. Assumes nothing.
use mathlib.Core.Path.{◌≡◌}
use Prim.Native.Nat.{◌+◌, ◌-◌, ◌≤◌}
use lib.ListN.{length, get_or}
use Rattle.call_log.specs.Log.{fields}
use Rattle.call_log.proofs.call_taken.Given as goal

abbrev pub invariant-loop-field : goal.invariant-loop-field
invariant-loop-field l = (l.k ≤ 1 + (length l.b - 1)) × (fields (6 - l.field-index) l.field-index (get_or l.b 0 0) l.b l.k ≡ fields 6 0 (get_or l.b 0 0) l.b 1)
