-- `twiddles::negate` meets its contract. The loop's invariant: the numbers before the index are negated. Assumes nothing.
use mathlib.Core.Path.{◌≡◌}
use mathlib.Core.List.{◌++◌, map}
use lib.ListN.{take, drop}
use lib.Ieee.{neg}
use Rattle.twiddles.proofs.negate.Given as goal

abbrev pub invariant-loop-x : goal.invariant-loop-x
invariant-loop-x l = l.im ≡ map neg (take l.x-index l.initial.im) ++ drop l.x-index l.initial.im
