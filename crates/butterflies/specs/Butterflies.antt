-- One stage of the transform (kissfft.rs), as what each place becomes. Places are a function from a place to a complex number, a
-- column is a function from its part q to a complex number. Definitions only.
use Rattle.std.specs.Prelude.{Bool, cond, ℕ, zero, suc, ◌+◌, ◌*◌, ◌/◌, ◌%◌, ltb}
use Rattle.complex.specs.declared.Complex.{Complex}
use Rattle.complex.specs.Complex.{times}
use Rattle.columns.specs.Column.{two, three, four, five}

-- A block has p parts of m places. Column j is its places j, j + m, .. , and b j turns a column into a column. Places past the block stay.
unfoldable pub stage : ℕ → ℕ → (ℕ → (ℕ → Complex) → ℕ → Complex) → (ℕ → Complex) → ℕ → Complex
stage p m b f k = cond (ltb k (p * m)) (b (k % m) (λ q. f (k % m + m * q)) (k / m)) (f k)

-- A column before its butterfly: place q but the first is multiplied by twiddle q k.
abbrev pub twist : (ℕ → Complex) → ℕ → (ℕ → Complex) → ℕ → Complex
twist t k c zero = c zero
twist t k c (suc q) = times (c (suc q)) (t (suc q * k))

-- What a stage makes of column j, by its radix: the column twiddled with t at stride s, then its butterfly. In radix 3 and 5 parts have m places.
unfoldable pub column2 : (ℕ → Complex) → ℕ → ℕ → (ℕ → Complex) → ℕ → Complex
column2 t s j c = two (twist t (j * s) c)

unfoldable pub column3 : (ℕ → Complex) → ℕ → ℕ → ℕ → (ℕ → Complex) → ℕ → Complex
column3 t s m j c = three (t (s * m)) (twist t (j * s) c)

unfoldable pub column4 : Bool → (ℕ → Complex) → ℕ → ℕ → (ℕ → Complex) → ℕ → Complex
column4 inverse t s j c = four inverse (twist t (j * s) c)

unfoldable pub column5 : (ℕ → Complex) → ℕ → ℕ → ℕ → (ℕ → Complex) → ℕ → Complex
column5 t s m j c = five (t (s * m)) (t (2 * (s * m))) (twist t (j * s) c)
