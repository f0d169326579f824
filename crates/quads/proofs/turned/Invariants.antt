-- `quads::turned` meets its contract. The loop's invariant: the first q places are those of the twiddled column. Assumes nothing.
use Rattle.complex.specs.Complex.{at}
use Rattle.quads.proofs.Read.{Read}
use Rattle.quads.proofs.turned.Given as goal

abbrev pub invariant-loop-q : goal.invariant-loop-q
invariant-loop-q g l = Read g.row.R (at l.tr l.ti) l.m l.i (at l.re l.im) l.q l.column
