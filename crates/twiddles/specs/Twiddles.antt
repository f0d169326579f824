-- The twiddles of each FFT size, as the Rust computes them (kissfft.rs, dct_iv.rs). Definitions only.
use Rattle.std.specs.Prelude.{Bool, true, false, cond, List, [], ◌∷◌, ◌++◌, map, ℕ, ◌+◌, ltb, take, drop, Float}
use Rattle.std.specs.Float.{binary32}
use Rattle.std.specs.Float.Ieee.{of_bits, neg}
use Rattle.config.specs.Config.{among, fft_sizes}
use Rattle.complex.specs.declared.Complex.{Complex}
use Rattle.complex.specs.Complex.{at}
use Rattle.twiddles.specs.Tables.{sizes, fft_re_bits, fft_im_bits, dct_re_bits, dct_im_bits}

-- the sum of the sizes below n
abbrev pub below : List ℕ → ℕ → ℕ
below [] n = 0
below (m ∷ ms) n = cond (ltb m n) m 0 + below ms n

-- where the twiddles of size n start in a table of all: after those of the smaller sizes
unfoldable pub start : ℕ → ℕ
start n = below sizes n

-- the numbers of size n, from a table of all as bits
abbrev pub part : List ℕ → ℕ → List Float
part bits n = map (of_bits binary32) (take n (drop (start n) bits))

-- "FFT twiddle i of n: cosine and sine of -2πi/n in f64, then to f32", the parts as two lists
unfoldable pub fft_re : ℕ → List Float
fft_re n = part fft_re_bits n

unfoldable pub fft_im : ℕ → List Float
fft_im n = part fft_im_bits n

-- "The inverse table negates each imaginary part."
unfoldable pub fft_im_of : Bool → ℕ → List Float
fft_im_of false n = fft_im n
fft_im_of true n = map neg (fft_im n)

-- FFT twiddle k of n, forward or inverse
unfoldable pub twiddle : ℕ → Bool → ℕ → Complex
twiddle n inverse k = at (fft_re n) (fft_im_of inverse n) k

-- "DCT twiddle i of c = nf/2: angle -π(8i+1)/(16c)", the parts as two lists
unfoldable pub dct_re : ℕ → List Float
dct_re n = part dct_re_bits n

unfoldable pub dct_im : ℕ → List Float
dct_im n = part dct_im_bits n

-- the table of size n as the code has it: the real parts, then the imaginary parts
unfoldable pub dct_table : ℕ → List Float
dct_table n = dct_re n ++ dct_im n

-- what the code lends: the table of a size that a configuration has, and nothing at any other number
unfoldable pub dct_lent : ℕ → List Float
dct_lent n = cond (among fft_sizes n) (dct_table n) []

-- DCT twiddle k of n
unfoldable pub dct_twiddle : ℕ → ℕ → Complex
dct_twiddle n k = at (dct_re n) (dct_im n) k
