-- `band` meets its contract: the lines between its edges, and the peak counted from the first edge on. Assumes nothing.
use mathlib.Core.Path.{ap}
use Prim.Native.Nat.{◌+◌, ◌-◌}
use native.Mathlib.Omega.{arith}
use lib.ListN.{get_or, drop, length-drop}
use lib.Seq.{length-take-le}
use Rattle.measurement_steps.specs.Energy.{band_of}
use Rattle.measurement_steps.specs.Peak.{placed}
use Rattle.measurement_steps.proofs.Peaks.{peak-within}
use Rattle.measurement_steps.proofs.band.Goals as goal

pub overflow_add-result : goal.overflow_add-result
overflow_add-result c = let s = c in
    let ls = s.args.lines.now in
    let from = get_or s.args.edges.now s.args.b 0 in
    let to = get_or s.args.edges.now (s.args.b + 1) 0 in
    let long = length-take-le (to - from) (drop from ls) (omega (arith, length-drop from ls)) in
    record { fits = omega (arith, peak-within _ c.measured-own.result c.measured-own.ensures, long) }

pub returns : goal.returns
unfolding band_of
returns c = let a = c.args in
    ap (placed (get_or a.edges.now a.b 0)) c.measured-own.ensures
