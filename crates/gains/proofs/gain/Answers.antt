-- `gains::gain` meets its contract: each arm is the definition's entry, and the last arm is none of them. Written by tools/tables. Assumes nothing.
use mathlib.Core.Path.{ap, sym}
use lib.Ieee.{binary32, of_bits}
use Rattle.gains.specs.Tables.{lengths, gain_bits}
use Rattle.gains.specs.Gains.{gain}
use Rattle.gains.proofs.Look.{look_none}
use Rattle.gains.proofs.gain.Goals as goal

pub returns-in-20 : goal.returns-in-20
unfolding gain lengths gain_bits
returns-in-20 c = ap gain (sym c.in-20.is)

pub returns-in-40 : goal.returns-in-40
unfolding gain lengths gain_bits
returns-in-40 c = ap gain (sym c.in-40.is)

pub returns-in-60 : goal.returns-in-60
unfolding gain lengths gain_bits
returns-in-60 c = ap gain (sym c.in-60.is)

pub returns-in-80 : goal.returns-in-80
unfolding gain lengths gain_bits
returns-in-80 c = ap gain (sym c.in-80.is)

pub returns-in-120 : goal.returns-in-120
unfolding gain lengths gain_bits
returns-in-120 c = ap gain (sym c.in-120.is)

pub returns-in-160 : goal.returns-in-160
unfolding gain lengths gain_bits
returns-in-160 c = ap gain (sym c.in-160.is)

pub returns-in-180 : goal.returns-in-180
unfolding gain lengths gain_bits
returns-in-180 c = ap gain (sym c.in-180.is)

pub returns-in-240 : goal.returns-in-240
unfolding gain lengths gain_bits
returns-in-240 c = ap gain (sym c.in-240.is)

pub returns-in-320 : goal.returns-in-320
unfolding gain lengths gain_bits
returns-in-320 c = ap gain (sym c.in-320.is)

pub returns-in-360 : goal.returns-in-360
unfolding gain lengths gain_bits
returns-in-360 c = ap gain (sym c.in-360.is)

pub returns-in-480 : goal.returns-in-480
unfolding gain lengths gain_bits
returns-in-480 c = ap gain (sym c.in-480.is)

pub returns-in_default : goal.returns-in_default
unfolding gain lengths gain_bits
returns-in_default c = ap (of_bits binary32) (sym (look_none lengths gain_bits c.args.nf Unit c.in_default.in_default-own.rest))
