-- `rest` meets its contract: as many lines more as are left. Assumes nothing.
use Prim.Native.Nat.{◌+◌}
use native.Mathlib.Omega.{arith}
use Rattle.measurement_steps.proofs.Peaks.{at_place}
use Rattle.measurement_steps.proofs.rest.Goals as goal

pub returns-in-1 : goal.returns-in-1
returns-in-1 c = let a = c.args in
    at_place a.width a.lines.now (a.i + 1) _ c.more.ensures (omega arith)

pub returns-in-2 : goal.returns-in-2
returns-in-2 c = let a = c.args in
    at_place a.width a.lines.now (a.i + 2) _ c.several.ensures (omega arith)

pub returns-in-3 : goal.returns-in-3
returns-in-3 c = let a = c.args in
    at_place a.width a.lines.now (a.i + 3) _ c.several-in-3.ensures (omega arith)

pub returns-in_default : goal.returns-in_default
returns-in_default c = let s = c in
    let a = s.args in
    at_place a.width a.lines.now a.i _ s.requires.2 (omega arith)
