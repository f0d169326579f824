-- What document 01 asks of each twiddle, by one computed test over all sizes each, and a law at each entry. Assumes nothing.
use mathlib.Core.Bool.{Bool, true, false, ◌&&◌}
use mathlib.Core.List.{List, [], ◌∷◌}
use Prim.Native.Nat.{ℕ, zero, suc, ◌<◌}
use native.Mathlib.Nat.{not-suc-le-zero, le_of_suc-le-suc}
use native.Mathlib.Numerals.{add-one}
use lib.Dec.{T}
use lib.ListN.{length, get_or}
use lib.Ieee.{Float, nan, of_bits, of_fields, odd}
use lib.Ieee.Fits.{and_l, and_r}
use lib.Count.{count_trailing_zeros}
use Rattle.laws.specs.Exact.{finite, units, near}
use Rattle.laws.proofs.Table.{every}
use Rattle.config.proofs.Among.{at-among}
use Rattle.twiddles.specs.Tables.{sizes, fft_re_bits, fft_im_bits, dct_re_bits, dct_im_bits}
use Rattle.twiddles.specs.Twiddles.{start, fft_re, fft_im, dct_re, dct_im}
use Rattle.twiddles.specs.Circle.{circle, turned}
use Rattle.twiddles.specs.Rules.{Rules}
use Rattle.twiddles.proofs.Sizes.{sized}

-- every pair of the two lists is on the circle
abbrev circles : List Float → List Float → Bool
circles [] is = true
circles (r ∷ rs) [] = false
circles (r ∷ rs) (i ∷ is) = circle r i && circles rs is

circle-at : (rs is : List Float) → T (circles rs is) → (k : ℕ) → k < length rs → T (circle (get_or rs k nan) (get_or is k nan))
circle-at [] is t k h = absurd (not-suc-le-zero h)
circle-at (r ∷ rs) [] t k h = absurd t
circle-at (r ∷ rs) (i ∷ is) t zero h = and_l (circle r i) (circles rs is) t
circle-at (r ∷ rs) (i ∷ is) t (suc k) h = circle-at rs is (and_r (circle r i) (circles rs is) t) k (le_of_suc-le-suc h)

abbrev round : ℕ → Bool
round n = circles (fft_re n) (fft_im n) && circles (dct_re n) (dct_im n)

circle_test : T (every (λ k n. round n) 0 sizes)
unfolding sizes start fft_re fft_im dct_re dct_im fft_re_bits fft_im_bits dct_re_bits dct_im_bits circle near units finite of_bits of_fields odd count_trailing_zeros
circle_test = tt

-- every pair of the two lists but the first is the one before it, turned by (br, bi)
abbrev turns : Float → Float → List Float → List Float → Bool
turns br bi [] is = true
turns br bi (r ∷ []) is = true
turns br bi (r ∷ s ∷ rs) [] = false
turns br bi (r ∷ s ∷ rs) (i ∷ []) = false
turns br bi (r ∷ s ∷ rs) (i ∷ j ∷ is) = turned r i br bi s j && turns br bi (s ∷ rs) (j ∷ is)

turned-at : (br bi : Float) (rs is : List Float) → T (turns br bi rs is) → (k : ℕ) → suc k < length rs → T (turned (get_or rs k nan) (get_or is k nan) br bi (get_or rs (suc k) nan) (get_or is (suc k) nan))
turned-at br bi [] is t k h = absurd (not-suc-le-zero h)
turned-at br bi (r ∷ []) is t k h = absurd (not-suc-le-zero (le_of_suc-le-suc h))
turned-at br bi (r ∷ s ∷ rs) [] t k h = absurd t
turned-at br bi (r ∷ s ∷ rs) (i ∷ []) t k h = absurd t
turned-at br bi (r ∷ s ∷ rs) (i ∷ j ∷ is) t zero h = and_l (turned r i br bi s j) (turns br bi (s ∷ rs) (j ∷ is)) t
turned-at br bi (r ∷ s ∷ rs) (i ∷ j ∷ is) t (suc k) h = turned-at br bi (s ∷ rs) (j ∷ is) (and_r (turned r i br bi s j) (turns br bi (s ∷ rs) (j ∷ is)) t) k (le_of_suc-le-suc h)

abbrev turning : ℕ → Bool
turning n = turns (get_or (fft_re n) 1 nan) (get_or (fft_im n) 1 nan) (fft_re n) (fft_im n)

turn_test : T (every (λ k n. turning n) 0 sizes)
unfolding sizes start fft_re fft_im fft_re_bits fft_im_bits turned near units of_bits of_fields odd count_trailing_zeros
turn_test = tt

pub rules : Rules
rules =
    record {
      fft_circle = λ n s k h.
          circle-at (fft_re n) (fft_im n) (and_l (circles (fft_re n) (fft_im n)) _ (at-among round sizes circle_test n s)) k (rw (sized n s).fft-re h);
      dct_circle = λ n s k h.
          circle-at (dct_re n) (dct_im n) (and_r (circles (fft_re n) (fft_im n)) _ (at-among round sizes circle_test n s)) k (rw (sized n s).dct-re h);
      fft_turned = λ n s k h.
          rw (add-one k) (turned-at (get_or (fft_re n) 1 nan) (get_or (fft_im n) 1 nan) (fft_re n) (fft_im n) (at-among turning sizes turn_test n s) k (rw (sized n s).fft-re (rw (add-one k) at h)));
    }
