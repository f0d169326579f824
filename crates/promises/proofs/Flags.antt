-- The flag on each side of its edge at each configuration, by computation. Assumes nothing.
use mathlib.Core.Path.{refl}
use lib.Ieee.{of_bits, add, mul, lt}
use Rattle.config.specs.Tables.{rows}
use Rattle.config.specs.Config.{row}
use Rattle.measurement_steps.specs.Energy.{total, exceeds}
use Rattle.measurement.specs.Measurement.{flag_of}
use Rattle.promises.specs.Flags.{Flags}

pub flags : Flags
unfolding flag_of exceeds total row rows of_bits add mul lt
flags = record { at_the_edge = refl; above_it = refl }
