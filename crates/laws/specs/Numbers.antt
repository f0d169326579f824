-- Numbers that several rooms speak of. Definitions only.
use Rattle.std.specs.Prelude.{Float}
use Rattle.std.specs.Float.{binary32}
use Rattle.std.specs.Float.Ieee.{of_bits}

-- +0.0
abbrev pub zero32 : Float
zero32 = of_bits binary32 0
