-- Floats in whole numbers, so that a rule of theirs is tested exactly: a float as a whole number of 2^-149, a product of two as one of 2^-298. Definitions only.
use Rattle.std.specs.Prelude.{◌*◌, ◌/◌, ◌^◌, Bool, true, false, cond, ℤ, pos, neg_ℤ, nat_abs, ◌-ℤ◌, leb, Float}
use Rattle.std.specs.Float.{nan, inf, fin}
use Rattle.std.specs.Float.Ieee.{up, down}

unfoldable pub finite : Float → Bool
finite nan = false
finite (inf s) = false
finite (fin s m e) = true

-- a finite float in units of 2^-149: every finite f32 is a whole number of them
unfoldable pub units : Float → ℤ
units nan = pos 0
units (inf s) = pos 0
units (fin s m e) = cond s (neg_ℤ (pos (m * up e * 2 ^ 149 / down e))) (pos (m * up e * 2 ^ 149 / down e))

-- two numbers of 2^-298 that differ by at most 2^-22
unfoldable pub near : ℤ → ℤ → Bool
near a b = leb (nat_abs (a -ℤ b)) (2 ^ 276)
