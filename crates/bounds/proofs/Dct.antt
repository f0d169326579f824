-- The DCT-IV of values of at most 2 ^ k steps: the FFT's growth, and 2 ^ 3 beside it. Assumes nothing.
use mathlib.Core.Path.{◌≡◌, sym, subst}
use mathlib.Core.Bool.{Bool, true, false, cond}
use mathlib.Core.List.{List}
use Prim.Native.Nat.{ℕ, ◌+◌, ◌-◌, ◌*◌, ◌/◌, ◌%◌, ◌≤◌, ◌<◌}
use native.Mathlib.Omega.{arith}
use lib.Dec.{T, eqb, lit≤}
use lib.ListN.{length, get_or}
use lib.Ieee.{Float, nan, binary32, mul, neg, of_bits}
use Rattle.laws.proofs.Lists.{get_or-tab}
use Rattle.complex.specs.declared.Complex.{Complex}
use Rattle.complex.specs.Complex.{times, at}
use Rattle.config.specs.Config.{among, fft_sizes}
use Rattle.twiddles.specs.Twiddles.{twiddle, dct_twiddle}
use Rattle.kf_work.specs.Work.{plan, spectrum, reals, imaginaries}
use Rattle.kf_work.proofs.Sizes.{sized}
use Rattle.dct_steps.specs.Dct.{point, double, placed, dct_by, dct_iv}
use Rattle.bounds.specs.Within.{Each}
use Rattle.bounds.specs.Size.{Size, Both}
use Rattle.bounds.specs.Growth.{growth}
use Rattle.bounds.proofs.Bound.{room, minus, product}
use Rattle.bounds.proofs.Columns.{by_twiddle, up}
use Rattle.bounds.proofs.Lists.{each_at, each-tab}
use Rattle.bounds.proofs.Work.{transform_bound}
use Rattle.bounds.proofs.Tables.{fft_small, dct_small}

double_size : Size 150 1 double
unfolding of_bits
double_size = record { fact = lit≤ tt }

doubled : {k : ℕ} {x : Float} → k + 1 ≤ 253 → Size k 1 x → Size (k + 1) 1 (mul binary32 x double)
doubled K h = product (room K tt) (omega arith) h double_size

-- of 2 n values, where n is a size of the FFT
module _ (n : ℕ) (s : T (among fft_sizes n)) (k : ℕ) (K : k + 3 + growth (plan n) ≤ 253) (buf : List Float) (even : length buf ≡ 2 * n) (each : Each (Size k 1) buf) where
  abbrev d : ℕ → Complex
  d = dct_twiddle n

  abbrev input : ℕ → Complex
  input = at (reals n (point d buf)) (imaginaries n (point d buf))

  abbrev z : ℕ → Complex
  z i = times (d i) (spectrum (twiddle n false) false n input i)

  value : (i : ℕ) → i < 2 * n → Size k 1 (get_or buf i nan)
  value i I = each_at nan i each (omega arith)

  twiddled : {j : ℕ} {i : ℕ} {x : Complex} → j ≤ 253 → i < n → Both j 1 x → Both (j + 1) 1 (times (d i) x)
  twiddled {j} {i} J I h = up j J 1 (by_twiddle j J (omega arith) (dct_small n s i I) h) tt

  points : (i : ℕ) → i < n → Both (k + 1) 1 (point d buf i)
  points i I = twiddled (omega arith) I (record { r = value (2 * i) (omega arith); i = value (length buf - 2 * i - 1) (omega arith) })

  inputs : (i : ℕ) → i < n → Both (k + 1) 1 (input i)
  inputs i I =
      record {
        r = subst (Size (k + 1) 1) (sym (get_or-tab n (λ i. (point d buf i).r) nan i I)) (points i I).r;
        i = subst (Size (k + 1) 1) (sym (get_or-tab n (λ i. (point d buf i).i) nan i I)) (points i I).i;
      }

  abbrev top : ℕ
  top = k + 1 + growth (plan n)

  results : (i : ℕ) → i < n → Both (top + 1) 1 (z i)
  unfolding spectrum
  results i I =
      let p = sized n s in
      twiddled (omega arith) I
      (transform_bound n (twiddle n false) false (fft_small n s) (k + 1) input inputs (plan n) p.plan_radixes p.whole (omega arith) i I)

  place : (i : ℕ) → i < length buf → Size (top + 1 + 1) 1 (placed z (length buf) i)
  place i I = go (eqb (i % 2) 0)
    where
      go : (b : Bool) → Size (top + 1 + 1) 1 (cond b (mul binary32 (z (i / 2)).r double) (mul binary32 (neg (z ((length buf - 1 - i) / 2)).i) double))
      go true = doubled (omega arith) (results (i / 2) (omega arith)).r
      go false = doubled (omega arith) (minus (results ((length buf - 1 - i) / 2) (omega arith)).i)

  pub dct-bound : Each (Size (k + 3 + growth (plan n)) 1) (dct_iv buf)
  unfolding dct_iv
  dct-bound =
      subst (λ (m : ℕ). Each (Size m 1) (dct_iv buf)) counted
      (subst (λ (m : ℕ). Each (Size (top + 1 + 1) 1) (dct_by (dct_twiddle m) (twiddle m false) m buf)) halved (each-tab (length buf) (placed z (length buf)) place))
    where
      counted : top + 1 + 1 ≡ k + 3 + growth (plan n)
      counted = omega arith

      halved : n ≡ length buf / 2
      halved = omega arith
