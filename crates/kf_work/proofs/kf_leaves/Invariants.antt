-- `kf_work::kf_leaves` meets its contract. The loop's invariant: the first q innermost stages are done. Assumes nothing.
use mathlib.Core.Path.{◌≡◌}
use Prim.Native.Nat.{◌*◌, ◌-◌, ◌≤◌}
use lib.ListN.{length, get_or}
use Rattle.complex.specs.Complex.{at}
use Rattle.kf_work.specs.Work.{within}
use Rattle.kf_work.specs.Packed.{innermost}
use Rattle.kf_work.proofs.Stages.{blocks}
use Rattle.kf_work.proofs.kf_leaves.Given as goal

abbrev pub invariant-loop-q : goal.invariant-loop-q
invariant-loop-q l = (length l.re ≡ length l.initial.re) × (length l.im ≡ length l.initial.im) × (l.q ≤ get_or l.plan 0 0) × (l.s ≡ l.fstride * get_or l.plan 0 0) × (at l.re l.im ≡ within (l.q * 5) (blocks (innermost (at l.tr l.ti) (at l.x l.y) (l.fstride * get_or l.plan 0 0)) 5 l.fstride l.from) (at l.initial.re l.initial.im))

abbrev pub decreases-loop-q : goal.decreases-loop-q
decreases-loop-q l = get_or l.plan 0 0 - l.q
