-- `many` meets its contract. The loop's invariant: what the band has come to after its first fours of lines. Assumes nothing.
use mathlib.Core.Path.{refl, ap}
use Prim.Native.Nat.{◌+◌, ◌*◌, ◌/◌}
use native.Mathlib.Omega.{arith}
use lib.ListN.{length}
use lib.Ieee.{binary32, of_int}
use mir.Syntax.{w32}
use mir.ValLaws.{to_z_pos}
use Rattle.laws.proofs.Whole.{width_fits}
use Rattle.measurement_steps.proofs.Peaks.{at_place, whole_is}
use Rattle.measurement_steps.proofs.many.Goals as goal

pub overflow_cast-width : goal.overflow_cast-width
overflow_cast-width c = record { sfits = omega arith }

pub int_to_float-width : goal.int_to_float-width
int_to_float-width c = rw (to_z_pos w32 (length c.args.lines.now) (omega arith)) (width_fits _ (omega arith))

pub loop-q-init : goal.loop-q-init
loop-q-init c = c.start-b.ensures _

pub loop-q-preserved : goal.loop-q-preserved
loop-q-preserved c = let l = c.loop-q in
    at_place _ _ (4 * l.q + 4) (4 * (l.q + 1)) c.four-b.ensures (omega arith)

pub rest-requires : goal.rest-requires
rest-requires c = let l = c.loop-q in
    let n = length c.args.lines.now in
    (omega arith, omega arith, at_place _ _ (4 * l.q) (n / 4 * 4) l.invariant (omega arith))

pub returns : goal.returns
returns c = let ls = c.args.lines.now in
    whole_is _ ls (length ls) _ c.rest.ensures refl (ap (of_int binary32) (to_z_pos w32 (length ls) (omega arith)))
