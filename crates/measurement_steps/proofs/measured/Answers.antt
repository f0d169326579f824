-- `measured` meets its contract: each case goes through all lines, by the width that their number is. Assumes nothing.
use mathlib.Core.Path.{refl}
use native.Mathlib.Omega.{arith}
use lib.Ieee.{of_bits, of_int}
use Rattle.measurement_steps.proofs.Peaks.{whole_is}
use Rattle.measurement_steps.proofs.measured.Goals as goal

pub more-requires : goal.more-requires
more-requires c = (omega arith, c.start-none.ensures _)

pub several-requires : goal.several-requires
several-requires c = (omega arith, c.start-none.ensures _)

pub several-requires-in-3 : goal.several-requires-in-3
several-requires-in-3 c = (omega arith, c.start-none.ensures _)

pub four-requires : goal.four-requires
four-requires c = (omega arith, c.start-none.ensures _)

pub four-requires-in-5 : goal.four-requires-in-5
four-requires-in-5 c = (omega arith, c.start-none.ensures _)

pub four-requires-in-6 : goal.four-requires-in-6
four-requires-in-6 c = (omega arith, c.start-none.ensures _)

pub four-requires-in-7 : goal.four-requires-in-7
four-requires-in-7 c = (omega arith, c.start-none.ensures _)

pub four-requires-in-8 : goal.four-requires-in-8
four-requires-in-8 c = (omega arith, c.start-none.ensures _)

pub four-requires-in-9 : goal.four-requires-in-9
four-requires-in-9 c = (omega arith, c.start-none.ensures _)

pub returns-in-1 : goal.returns-in-1
unfolding of_bits of_int
returns-in-1 c = whole_is _ c.args.lines.now 1 _ c.more.ensures (omega arith) refl

pub returns-in-2 : goal.returns-in-2
unfolding of_bits of_int
returns-in-2 c = whole_is _ c.args.lines.now 2 _ c.several.ensures (omega arith) refl

pub returns-in-3 : goal.returns-in-3
unfolding of_bits of_int
returns-in-3 c = whole_is _ c.args.lines.now 3 _ c.several-in-3.ensures (omega arith) refl

pub returns-in-4 : goal.returns-in-4
unfolding of_bits of_int
returns-in-4 c = whole_is _ c.args.lines.now 4 _ c.four.ensures (omega arith) refl

pub returns-in-5 : goal.returns-in-5
unfolding of_bits of_int
returns-in-5 c = whole_is _ c.args.lines.now 5 _ c.more-in-5.ensures (omega arith) refl

pub returns-in-6 : goal.returns-in-6
unfolding of_bits of_int
returns-in-6 c = whole_is _ c.args.lines.now 6 _ c.several-in-6.ensures (omega arith) refl

pub returns-in-7 : goal.returns-in-7
unfolding of_bits of_int
returns-in-7 c = whole_is _ c.args.lines.now 7 _ c.several-in-7.ensures (omega arith) refl

pub returns-in-8 : goal.returns-in-8
unfolding of_bits of_int
returns-in-8 c = whole_is _ c.args.lines.now 8 _ c.four-in-8-2.ensures (omega arith) refl

pub returns-in-9 : goal.returns-in-9
unfolding of_bits of_int
returns-in-9 c = whole_is _ c.args.lines.now 9 _ c.more-in-9.ensures (omega arith) refl

pub returns-in_default : goal.returns-in_default
returns-in_default c = c.many.ensures
