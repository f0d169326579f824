-- `single` meets its contract: four stores of energies, and four of lines. Assumes nothing.
use mathlib.Core.Path.{◌≡◌}
use Prim.Native.Nat.{suc, ◌+◌}
use native.Mathlib.Nat.{add-zero}
use native.Mathlib.Omega.{arith}
use lib.ListN.{length-set}
use Rattle.laws.specs.Lists.{tab}
use Rattle.measurement_steps.proofs.single.Goals as goal

pub bounds-out-b-2 : goal.bounds-out-b-2
bounds-out-b-2 c = simp length-set (omega arith)

pub bounds-out-b-3 : goal.bounds-out-b-3
bounds-out-b-3 c = simp length-set (omega arith)

pub bounds-out-b-4 : goal.bounds-out-b-4
bounds-out-b-4 c = simp length-set (omega arith)

pub bounds-places-b-2 : goal.bounds-places-b-2
bounds-places-b-2 c = simp length-set (omega arith)

pub bounds-places-b-3 : goal.bounds-places-b-3
bounds-places-b-3 c = simp length-set (omega arith)

pub bounds-places-b-4 : goal.bounds-places-b-4
bounds-places-b-4 c = simp length-set (omega arith)

pub returns : goal.returns
unfolding tab
returns c = let b = c.args.b in
    let second : suc b ≡ b + 1 = omega arith in
    let third : suc (b + 1) ≡ b + 2 = omega arith in
    let fourth : suc (b + 2) ≡ b + 3 = omega arith in
    (simp (c.one-x.ensures, c.one-y.ensures, c.one-z.ensures, c.one-w.ensures, second, third, fourth, add-zero), simp (second, third, fourth, add-zero))
