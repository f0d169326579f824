-- How much the transform can make its numbers grow, once for every radix, plan and configuration. Definitions only.
use Rattle.std.specs.Prelude.{ℕ, suc, ◌+◌, ◌-◌, ◌*◌, ◌≤◌, ◌<◌, ◌≡◌, Bool, false, cond, ◌&&◌, List, [], ◌∷◌, T, leb, eqb, length, Float}
use Rattle.complex.specs.declared.Complex.{Complex}
use Rattle.columns.specs.Column.{two, three, four, five}
use Rattle.config.specs.Config.{valid, nf, half, among, fft_sizes}
use Rattle.twiddles.specs.Twiddles.{twiddle, dct_twiddle}
use Rattle.gains.specs.Gains.{gain}
use Rattle.kf_work.specs.Work.{plan, span, planned, column, work}
use Rattle.dct_steps.specs.Dct.{dct_iv}
use Rattle.bounds.specs.Within.{Each}
use Rattle.bounds.specs.Size.{Size, upto, Both, Small}

-- a column as a butterfly is handed it: the first number's parts are at most 2^k steps, those of the others, which are twiddled, twice that
pub record Column (k p : ℕ) (v : ℕ → Complex) : Type 0 where
  pub first : Both k 1 (v 0)
  pub others : (q : ℕ) → suc q < p → Both k 2 (v (suc q))

-- a butterfly of radix p makes of it numbers with parts of at most 2^(k + grow p) steps: counted part by part they come to 3 times 2^k in radix 2, 7 in 3 and 4, 17 in 5
abbrev pub grow : ℕ → ℕ
grow p = cond (eqb p 2) 2 (cond (eqb p 5) 5 3)

-- by a plan (radix, inner length, radix, inner length, ..) 2^growth times
abbrev pub growth : List ℕ → ℕ
growth [] = 0
growth (p ∷ []) = 0
growth (p ∷ m ∷ ps) = growth ps + grow p

-- a configuration's plan and gain, as a test: the plan grows 2^14 times at most, and with the gain 2^10 times
abbrev pub tame : ℕ → Bool
tame c = leb (growth (plan (half c))) 14 && upto (159 - growth (plan (half c))) (gain (nf c))

-- Exponents go to 253: a count below 2^24 of 2^253 steps is still an f32.
pub record Growth : Type 0 where
  -- no part of a twiddle that the DCT or its FFT reads is above 1
  pub fft_small : (n : ℕ) → T (among fft_sizes n) → (i : ℕ) → i < n → Small (twiddle n false i)
  pub dct_small : (n : ℕ) → T (among fft_sizes n) → (i : ℕ) → i < n → Small (dct_twiddle n i)
  -- the butterflies
  pub twos : (k : ℕ) → k ≤ 253 → (v : ℕ → Complex) → Column k 2 v → (q : ℕ) → q < 2 → Both (k + grow 2) 1 (two v q)
  pub threes : (k : ℕ) → k ≤ 253 → (v : ℕ → Complex) → Column k 3 v → (y : Complex) → Small y → (q : ℕ) → q < 3 → Both (k + grow 3) 1 (three y v q)
  pub fours : (k : ℕ) → k ≤ 253 → (v : ℕ → Complex) → Column k 4 v → (inverse : Bool) → (q : ℕ) → q < 4 → Both (k + grow 4) 1 (four inverse v q)
  pub fives : (k : ℕ) → k ≤ 253 → (v : ℕ → Complex) → Column k 5 v → (ya yb : Complex) → Small ya → Small yb → (q : ℕ) → q < 5 → Both (k + grow 5) 1 (five ya yb v q)
  -- a column of radix p, with n twiddles so small: from parts of at most 2^k steps to 2^grow times that
  pub columns : (n : ℕ) (t : ℕ → Complex) (inverse : Bool) → ((i : ℕ) → i < n → Small (t i))
      → (k : ℕ) → k ≤ 253 → (p s m j : ℕ) → 2 ≤ p → p ≤ 5 → 0 < s → s * (p * m) ≡ n → j < m → (c : ℕ → Complex) → ((q : ℕ) → q < p → Both k 1 (c q))
      → (q : ℕ) → q < p → Both (k + grow p) 1 (column t inverse s p m j c q)
  -- the transform of n numbers by any plan of n
  pub works : (n : ℕ) (t : ℕ → Complex) (inverse : Bool) → ((i : ℕ) → i < n → Small (t i))
      → (k : ℕ) (x : ℕ → Complex) → ((i : ℕ) → i < n → Both k 1 (x i)) → (ps : List ℕ) → T (planned ps) → span ps ≡ n → k + growth ps ≤ 253
      → (i : ℕ) → i < n → Both (k + growth ps) 1 (work t inverse x ps 1 0 i)
  -- the DCT of 2 n values: 2^3 times that of its FFT
  pub dcts : (n : ℕ) → T (among fft_sizes n) → (k : ℕ) → k + 3 + growth (plan n) ≤ 253
      → (buf : List Float) → length buf ≡ 2 * n → Each (Size k 1) buf → Each (Size (k + 3 + growth (plan n)) 1) (dct_iv buf)
  -- every configuration passes its test
  pub tames : (c : ℕ) → T (valid c) → T (tame c)
