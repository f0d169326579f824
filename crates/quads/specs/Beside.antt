-- What a stage makes of column j where its twiddles stand one beside the other, in parts of m places as the block's. A column is a function from its part q to
-- a complex number. Definitions only.
use Rattle.std.specs.Prelude.{ℕ, zero, suc, ◌+◌, ◌*◌, Float}
use Rattle.std.specs.Float.{binary32}
use Rattle.std.specs.Float.Ieee.{of_bits}
use Rattle.complex.specs.declared.Complex.{Complex}
use Rattle.complex.specs.Complex.{parts, times}
use Rattle.columns.specs.Column.{five}

-- a column before its butterfly: place q + 1 is multiplied by w q
abbrev pub twist_by : (ℕ → Complex) → (ℕ → Complex) → ℕ → Complex
twist_by w c zero = c zero
twist_by w c (suc q) = times (c (suc q)) (w q)

-- the twiddles of column j: that of place q + 1 stands in part q
abbrev pub beside : (ℕ → Complex) → ℕ → ℕ → ℕ → Complex
beside u m j q = u (j + m * q)

-- a column of any radix: b is its butterfly
abbrev pub beside_by : ((ℕ → Complex) → ℕ → Complex) → (ℕ → Complex) → ℕ → ℕ → (ℕ → Complex) → ℕ → Complex
beside_by b u m j c = b (twist_by (beside u m j) c)

-- 1.0
abbrev pub one32 : Float
one32 = of_bits binary32 0x3f800000

-- The innermost stage has one column, and no turn for each of its places: the first of the table, whose real part is 1.0. A fifth of a turn and two fifths follow.
unfoldable pub beside5 : (ℕ → Complex) → (ℕ → Complex) → ℕ → Complex
beside5 u c = five (u 1) (u 2) (twist_by (λ q. parts one32 (u 0).i) c)
