-- `quads::turn` meets its contract. The loop's invariant: the first q parts are written. Assumes nothing.
use mathlib.Core.Path.{◌≡◌}
use lib.ListN.{length}
use Rattle.complex.specs.Complex.{at}
use Rattle.quads.specs.Beside.{beside_by}
use Rattle.quads.specs.Rows.{turned_columns}
use Rattle.quads.proofs.turn.Given as goal

abbrev pub invariant-loop-q : goal.invariant-loop-q
invariant-loop-q g l =
    (length l.re ≡ length l.initial.re)
    × (length l.im ≡ length l.initial.im)
    × (at l.re l.im ≡ turned_columns 1 l.q l.m (g.K.Radix.order l.radix) (beside_by (g.K.Radix.makes l.radix) (at l.tr l.ti) l.m) l.i (at l.initial.re l.initial.im))
