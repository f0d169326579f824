-- `kf_work::transform_10` meets its contract. The loop's invariant: the first q innermost stages are done. Four columns and one are all of the stage above
-- them, and that is the transform by the plan of 10. Assumes nothing.
use mathlib.Core.Path.{◌≡◌}
use Prim.Native.Nat.{◌*◌, ◌-◌, ◌≤◌}
use lib.ListN.{length}
use Rattle.complex.specs.Complex.{at}
use Rattle.kf_work.specs.Work.{within}
use Rattle.kf_work.specs.Packed.{innermost}
use Rattle.kf_work.proofs.Stages.{blocks}
use Rattle.kf_work.proofs.transform_10.Given as goal

abbrev pub invariant-loop-q : goal.invariant-loop-q
invariant-loop-q l = (length l.re ≡ length l.initial.re) × (length l.im ≡ length l.initial.im) × (l.q ≤ 2) × (at l.re l.im ≡ within (l.q * 5) (blocks (innermost (at l.ur l.ui) (at l.x l.y) 2) 5 1 0) (at l.initial.re l.initial.im))

abbrev pub decreases-loop-q : goal.decreases-loop-q
decreases-loop-q l = 2 - l.q
