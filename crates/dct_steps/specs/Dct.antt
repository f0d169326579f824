-- The DCT-IV (dct_iv.rs) on a whole list. Definitions only.
use Rattle.std.specs.Prelude.{false, cond, List, ℕ, ◌-◌, ◌*◌, ◌/◌, ◌%◌, eqb, Float, length, get_or}
use Rattle.std.specs.Float.{nan, binary32}
use Rattle.std.specs.Float.Ieee.{of_bits, mul, neg}
use Rattle.laws.specs.Lists.{tab}
use Rattle.complex.specs.declared.Complex.{Complex}
use Rattle.complex.specs.Complex.{parts, times, at}
use Rattle.twiddles.specs.Twiddles.{twiddle, dct_twiddle}
use Rattle.kf_work.specs.Work.{spectrum, reals, imaginaries}

-- "Point n is twiddle n times (buf[2n], buf[nf-2n-1])", with the twiddles d
abbrev pub point : (ℕ → Complex) → List Float → ℕ → Complex
point d buf n = times (d n) (parts (get_or buf (2 * n) nan) (get_or buf (length buf - 2 * n - 1) nan))

-- 2.0
abbrev pub double : Float
double = of_bits binary32 0x40000000

-- "real part doubled to 2n, negated imaginary part doubled to nf-2n-1": place k of nf, from the numbers z
abbrev pub placed : (ℕ → Complex) → ℕ → ℕ → Float
placed z nf k = cond (eqb (k % 2) 0) (mul binary32 (z (k / 2)).r double) (mul binary32 (neg (z ((nf - 1 - k) / 2)).i) double)

-- "twiddle again": the nf values that the transformed numbers f become, with the twiddles d
abbrev pub twiddled_out : (ℕ → Complex) → ℕ → (ℕ → Complex) → List Float
twiddled_out d nf f = tab nf (placed (λ n. times (d n) (f n)) nf)

-- "forward FFT; twiddle again": the DCT with its twiddles d and the FFT's twiddles t, of c points
abbrev pub dct_by : (ℕ → Complex) → (ℕ → Complex) → ℕ → List Float → List Float
dct_by d t c buf =
    let x = point d buf in
    twiddled_out d (length buf) (spectrum t false c (at (reals c x) (imaginaries c x)))

-- `run`
unfoldable pub dct_iv : List Float → List Float
dct_iv buf = dct_by (dct_twiddle (length buf / 2)) (twiddle (length buf / 2) false) (length buf / 2) buf
