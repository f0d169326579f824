-- `kf_work::kf_work` meets its contract. The measure is the plan's inner length. The loop's invariant: the first q sub-transforms are done. Assumes nothing.
use mathlib.Core.Path.{◌≡◌}
use Prim.Native.Nat.{◌*◌, ◌≤◌}
use lib.ListN.{length, get_or}
use Rattle.complex.specs.Complex.{at}
use Rattle.kf_work.specs.Work.{within}
use Rattle.kf_work.specs.Packed.{after, packed_work}
use Rattle.kf_work.proofs.Stages.{blocks}
use Rattle.kf_work.proofs.+kf_work.Given as goal

abbrev pub decreases-kf_work : goal.decreases-kf_work
decreases-kf_work l = get_or l.plan.now 1 0

abbrev pub invariant-loop-q : goal.invariant-loop-q
invariant-loop-q l =
    (length l.re ≡ length l.initial.re)
    × (length l.im ≡ length l.initial.im)
    × (l.q ≤ l.p)
    × (at l.re l.im ≡ within (l.q * l.m) (blocks (packed_work (after (at l.tr l.ti) l.p l.m) l.inverse (at l.x l.y) l.rest (l.fstride * l.p)) l.m l.fstride l.from) (at l.initial.re l.initial.im))
