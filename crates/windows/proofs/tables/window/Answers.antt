-- `windows::window` meets its contract: each arm's table is the definition's part, by computation. Written by tools/tables. Assumes nothing.
use mathlib.Core.Path.{refl, ap, sym}
use Prim.Native.Nat.{◌≤◌}
use native.Mathlib.Omega.{arith}
use lib.ListN.{get_or-eq_default}
use Rattle.config.specs.Tables.{rows}
use Rattle.config.specs.Config.{row, none}
use Rattle.windows.specs.Tables.{entries}
use Rattle.windows.specs.Windows.{start, window}
use Rattle.windows.proofs.tables.window.Goals as goal

pub returns-in-0 : goal.returns-in-0
unfolding row rows entries start window
returns-in-0 c = ap window (sym c.in-0.is)

pub returns-in-1 : goal.returns-in-1
unfolding row rows entries start window
returns-in-1 c = ap window (sym c.in-1.is)

pub returns-in-2 : goal.returns-in-2
unfolding row rows entries start window
returns-in-2 c = ap window (sym c.in-2.is)

pub returns-in-3 : goal.returns-in-3
unfolding row rows entries start window
returns-in-3 c = ap window (sym c.in-3.is)

pub returns-in-4 : goal.returns-in-4
unfolding row rows entries start window
returns-in-4 c = ap window (sym c.in-4.is)

pub returns-in-5 : goal.returns-in-5
unfolding row rows entries start window
returns-in-5 c = ap window (sym c.in-5.is)

pub returns-in-6 : goal.returns-in-6
unfolding row rows entries start window
returns-in-6 c = ap window (sym c.in-6.is)

pub returns-in-7 : goal.returns-in-7
unfolding row rows entries start window
returns-in-7 c = ap window (sym c.in-7.is)

pub returns-in-8 : goal.returns-in-8
unfolding row rows entries start window
returns-in-8 c = ap window (sym c.in-8.is)

pub returns-in-9 : goal.returns-in-9
unfolding row rows entries start window
returns-in-9 c = ap window (sym c.in-9.is)

pub returns-in-10 : goal.returns-in-10
unfolding row rows entries start window
returns-in-10 c = ap window (sym c.in-10.is)

pub returns-in-11 : goal.returns-in-11
unfolding row rows entries start window
returns-in-11 c = ap window (sym c.in-11.is)

pub returns-in-12 : goal.returns-in-12
unfolding row rows entries start window
returns-in-12 c = ap window (sym c.in-12.is)

pub returns-in-13 : goal.returns-in-13
unfolding row rows entries start window
returns-in-13 c = ap window (sym c.in-13.is)

pub returns-in-14 : goal.returns-in-14
unfolding row rows entries start window
returns-in-14 c = ap window (sym c.in-14.is)

pub returns-in-15 : goal.returns-in-15
unfolding row rows entries start window
returns-in-15 c = ap window (sym c.in-15.is)

pub returns-in-16 : goal.returns-in-16
unfolding row rows entries start window
returns-in-16 c = ap window (sym c.in-16.is)

pub returns-in-17 : goal.returns-in-17
unfolding row rows entries start window
returns-in-17 c = ap window (sym c.in-17.is)

pub returns-in-18 : goal.returns-in-18
unfolding row rows entries start window
returns-in-18 c = ap window (sym c.in-18.is)

pub returns-in-19 : goal.returns-in-19
unfolding row rows entries start window
returns-in-19 c = ap window (sym c.in-19.is)

pub returns-in-20-to-255 : goal.returns-in-20-to-255
unfolding row rows entries start window
returns-in-20-to-255 c = let past : 20 ≤ c.args.c = omega arith in rw (get_or-eq_default rows none past) refl
