-- What is promised of every twiddle of every size. Definitions only.
use Rattle.std.specs.Prelude.{ℕ, ◌+◌, ◌<◌, T, get_or}
use Rattle.std.specs.Float.{nan}
use Rattle.config.specs.Config.{among}
use Rattle.twiddles.specs.Tables.{sizes}
use Rattle.twiddles.specs.Twiddles.{fft_re, fft_im, dct_re, dct_im}
use Rattle.twiddles.specs.Circle.{circle, turned}

pub record Rules : Type 0 where
  -- "every twiddle's r²+i² is within 2^-22 of 1": of the FFT
  pub fft_circle : (n : ℕ) → T (among sizes n) → (k : ℕ) → k < n → T (circle (get_or (fft_re n) k nan) (get_or (fft_im n) k nan))
  -- and of the DCT
  pub dct_circle : (n : ℕ) → T (among sizes n) → (k : ℕ) → k < n → T (circle (get_or (dct_re n) k nan) (get_or (dct_im n) k nan))
  -- "FFT entry i+1 is within 2^-22, in each part, of the exact product of entries i and 1"
  pub fft_turned : (n : ℕ) → T (among sizes n) → (k : ℕ) → k + 1 < n
      → T (turned (get_or (fft_re n) k nan) (get_or (fft_im n) k nan) (get_or (fft_re n) 1 nan) (get_or (fft_im n) 1 nan) (get_or (fft_re n) (k + 1) nan) (get_or (fft_im n) (k + 1) nan))
