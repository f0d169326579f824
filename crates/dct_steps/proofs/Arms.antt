-- The DCT of 2 n values by its steps, with the tables of n: what they leave is the DCT, for all sizes at once. Assumes nothing.
use mathlib.Core.Path.{◌≡◌, ap, ap₂, ◌∙◌}
use mathlib.Core.Bool.{false}
use mathlib.Core.List.{List}
use Prim.Native.Nat.{ℕ, ◌*◌, ◌/◌, ◌<◌}
use native.Mathlib.Omega.{arith}
use lib.Dec.{T}
use lib.Ieee.{Float, nan}
use lib.ListN.{length, get_or}
use Rattle.laws.proofs.Lists.{get_or-tab}
use Rattle.complex.specs.declared.Complex.{Complex}
use Rattle.complex.specs.Complex.{at, times}
use Rattle.config.specs.Config.{among, fft_sizes}
use Rattle.twiddles.specs.Twiddles.{twiddle, dct_re, dct_im, dct_twiddle}
use Rattle.kf_work.specs.Work.{spectrum, reals, imaginaries, BothParts}
use Rattle.kf_work.specs.Packed.{packed_spectrum, PackedTransformed}
use Rattle.fft_tables.specs.FftTables.{packed_re, packed_im, packed_im_of}
use Rattle.fft_tables.proofs.Packs.{packed_spectrum_lem}
use Rattle.dct_steps.specs.Dct.{point, twiddled_out, dct_by, dct_iv}
use Rattle.dct_steps.proofs.Placed.{placed_ext}

module _ (n : ℕ) (s : T (among fft_sizes n)) (buf dr di tr ti : List Float) where
  abbrev f : ℕ → Complex
  f = let x = point (dct_twiddle n) buf in spectrum (twiddle n false) false n (at (reals n x) (imaginaries n x))

  module _ (er : dr ≡ dct_re n) (ei : di ≡ dct_im n) (etr : tr ≡ packed_re n) (eti : ti ≡ packed_im n) (even : length buf ≡ 2 * n) where
    pub is_dct : {m : ℕ} {x y a b out : List Float} → m ≡ n → BothParts m (point (at dr di) buf) x y → length x ≡ n → PackedTransformed false tr ti x y a b
        → out ≡ twiddled_out (at dr di) (length buf) (at a b) → out ≡ dct_iv buf
    unfolding dct_iv dct_twiddle packed_im_of
    is_dct {x = x} {y = y} {a = a} {b = b} l₀ ex l ea e =
        e ∙ placed_ext n (length buf) _ _ even (λ k h. ap₂ times (ap (λ (g : ℕ → Complex). g k) twiddles) (each k h))
        ∙ ap (λ (m : ℕ). dct_by (dct_twiddle m) (twiddle m false) m buf) half
      where
        half : n ≡ length buf / 2
        half = omega arith

        twiddles : at dr di ≡ dct_twiddle n
        twiddles = ap₂ at er ei

        transformed : packed_spectrum (at tr ti) false (length x) (at x y) ≡ f
        transformed =
            (λ j. packed_spectrum (at tr ti) false (l j) (at ((ex.0 ∙ (λ i. reals (l₀ i) (point (twiddles i) buf))) j) ((ex.1 ∙ (λ i. imaginaries (l₀ i) (point (twiddles i) buf))) j)))
            ∙ packed_spectrum_lem n s false tr ti _ etr eti

        each : (k : ℕ) → k < n → at a b k ≡ f k
        each k h = λ j. record {
          r = (ap (λ (u : List Float). get_or u k nan) (ea.0 ∙ (λ i. reals (l i) (transformed i))) ∙ get_or-tab n (λ k. (f k).r) nan k h) j;
          i = (ap (λ (u : List Float). get_or u k nan) (ea.1 ∙ (λ i. imaginaries (l i) (transformed i))) ∙ get_or-tab n (λ k. (f k).i) nan k h) j;
        }
