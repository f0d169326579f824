-- What document 01 asks of the twiddles, in whole numbers. Definitions only.
use Rattle.std.specs.Prelude.{◌*◌, ◌^◌, Bool, false, not, ◌&&◌, pos, ◌+ℤ◌, ◌-ℤ◌, ◌*ℤ◌, ltb, eqb, Float}
use Rattle.std.specs.Float.{nan, inf, fin}
use Rattle.std.specs.Float.Ieee.{up, down}
use Rattle.laws.specs.Exact.{finite, units, near}

-- "every twiddle's r²+i² is within 2^-22 of 1"
unfoldable pub circle : Float → Float → Bool
circle r i = finite r && finite i && near (units r *ℤ units r +ℤ units i *ℤ units i) (pos (2 ^ 298))

-- "FFT entry i+1 is within 2^-22, in each part, of the exact product of entries i and 1": c of the product of a and b
unfoldable pub turned : Float → Float → Float → Float → Float → Float → Bool
turned ar ai br bi cr ci =
    near (units ar *ℤ units br -ℤ units ai *ℤ units bi) (units cr *ℤ pos (2 ^ 149))
    && near (units ar *ℤ units bi +ℤ units ai *ℤ units br) (units ci *ℤ pos (2 ^ 149))

-- "tiny and not 0": below 2^-22 in magnitude
unfoldable pub tiny : Float → Bool
tiny nan = false
tiny (inf s) = false
tiny (fin s m e) = not (eqb m 0) && ltb (m * up e * 2 ^ 22) (down e)
