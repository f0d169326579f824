-- The two tests of values in document 01's table of refusals. Definitions only.
use Rattle.std.specs.Prelude.{◌*◌, ◌^◌, Bool, false, not, ◌||◌, leb, eqb, Float}
use Rattle.std.specs.Float.{nan, inf, fin}
use Rattle.std.specs.Float.Ieee.{up, down}

-- Passes 6: finite, and at most 2^60 in magnitude. The magnitude of fin s m e is m * up e / down e.
unfoldable pub passes6 : Float → Bool
passes6 nan = false
passes6 (inf s) = false
passes6 (fin s m e) = leb (m * up e) (2 ^ 60 * down e)

-- Passes 7: finite, and not below zero. A minus sign may stand at zero alone: -0.0 counts as zero.
unfoldable pub passes7 : Float → Bool
passes7 nan = false
passes7 (inf s) = false
passes7 (fin s m e) = not s || eqb m 0

-- What can be ranked: not a NaN, and not below zero. An infinity can, and -0.0.
abbrev pub ranked : Float → Bool
ranked nan = false
ranked (inf s) = not s
ranked (fin s m e) = not s || eqb m 0
