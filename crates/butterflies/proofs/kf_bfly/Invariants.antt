-- `butterflies::kf_bfly` meets its contract. The invariant of both loops: the columns below the next are turned, the others are not. Assumes nothing.
use Rattle.complex.specs.Complex.{at}
use Rattle.quads.specs.Beside.{beside_by}
use Rattle.butterflies.proofs.Columns.{Quads, Singles}
use Rattle.butterflies.proofs.kf_bfly.Given as goal

abbrev pub invariant-loop-q : goal.invariant-loop-q
invariant-loop-q g l = Quads g.row.R l.m (beside_by (g.K.Radix.makes l.radix) (at l.tr l.ti) l.m) l.initial.re l.initial.im l.re l.im l.q

abbrev pub invariant-loop-i : goal.invariant-loop-i
invariant-loop-i g l = Singles g.row.R l.m (beside_by (g.K.Radix.makes l.radix) (at l.tr l.ti) l.m) l.initial.re l.initial.im l.initial.i l.re l.im l.i
