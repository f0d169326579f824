-- `dct_steps::twiddle_in` meets its contract. The loop's invariant: the first n points are in place, and the count back is as far from the end. Assumes nothing.
use mathlib.Core.Path.{◌≡◌}
use Prim.Native.Nat.{◌+◌, ◌-◌, ◌*◌, ◌≤◌}
use lib.ListN.{length}
use Rattle.complex.specs.Complex.{at}
use Rattle.kf_work.specs.Work.{within}
use Rattle.dct_steps.specs.Dct.{point}
use Rattle.dct_steps.proofs.twiddle_in.Given as goal

abbrev pub invariant-loop-n : goal.invariant-loop-n
invariant-loop-n l = (length l.xr ≡ length l.initial.xr) × (length l.xi ≡ length l.initial.xi) × (l.n ≤ l.n-end) × (l.n-end ≡ length l.initial.xr) × (l.back + 2 * l.n ≡ length l.buf) × (at l.xr l.xi ≡ within l.n (point (at l.dr l.di) l.buf) (at l.initial.xr l.initial.xi))

abbrev pub decreases-loop-n : goal.decreases-loop-n
decreases-loop-n l = l.n-end - l.n
