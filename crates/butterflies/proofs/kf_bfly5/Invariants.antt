-- `butterflies::kf_bfly5` meets its contract. The loop's invariant: the first q places are written. Assumes nothing.
use mathlib.Core.Path.{◌≡◌}
use lib.ListN.{length}
use Rattle.complex.specs.Complex.{at}
use Rattle.columns.specs.Column.{col}
use Rattle.quads.specs.Beside.{beside5}
use Rattle.quads.specs.Rows.{writes}
use Rattle.butterflies.proofs.kf_bfly5.Given as goal

abbrev pub invariant-loop-q : goal.invariant-loop-q
invariant-loop-q l = (length l.re ≡ length l.initial.re) × (length l.im ≡ length l.initial.im) × (at l.re l.im ≡ writes (at l.initial.re l.initial.im) 0 (beside5 (at l.tr l.ti) (col l.fn.column)) l.q)
