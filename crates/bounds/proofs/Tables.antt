-- The sizes of what the tables hold: one computed test over the sizes of the twiddles, one over the configurations, and a law at each. Assumes nothing.
use mathlib.Core.Path.{◌≡◌, sym, subst}
use mathlib.Core.Bool.{Bool, true, false, ◌&&◌}
use mathlib.Core.List.{List, [], ◌∷◌}
use Prim.Native.Nat.{ℕ, ◌-◌, ◌*◌, ◌^◌, ◌≤◌, ◌<◌}
use lib.Dec.{T, leb, leb→le}
use lib.ListN.{length, get_or}
use lib.Ieee.{Float, nan, inf, fin, up, down, binary32, of_bits, of_fields, odd}
use lib.Ieee.Fits.{and_l, and_r}
use lib.Count.{count_trailing_zeros}
use Rattle.laws.proofs.Table.{every}
use Rattle.config.specs.Tables.{rows}
use Rattle.config.specs.Config.{valid, configs, row, nf, half, among, fft_sizes}
use Rattle.config.proofs.Among.{at-among}
use Rattle.config.proofs.Sound.{each}
use Rattle.complex.specs.Complex.{at}
use Rattle.twiddles.specs.Tables.{sizes, fft_re_bits, fft_im_bits, dct_re_bits, dct_im_bits}
use Rattle.twiddles.specs.Twiddles.{start, fft_re, fft_im, fft_im_of, dct_re, dct_im, twiddle, dct_twiddle}
use Rattle.gains.specs.Tables.{lengths, gain_bits}
use Rattle.gains.specs.Gains.{gain}
use Rattle.twiddles.proofs.Sizes as twiddles
use Rattle.windows.specs.Windows as windows
use Rattle.windows.proofs.Entries.{rule}
use Rattle.kf_work.specs.Work.{plan}
use Rattle.bounds.specs.Within.{Within, Each, none, also}
use Rattle.bounds.specs.Size.{Size, upto, Small}
use Rattle.bounds.specs.Growth.{growth, tame}
use Rattle.bounds.proofs.Bound.{sized, one_over}
use Rattle.bounds.proofs.Lists.{each_at, each_of}

size_of : (k : ℕ) (x : Float) → T (upto k x) → Size k 1 x
size_of k x t = record { fact = go x t }
  where
    go : (x : Float) → T (upto k x) → Within (1 * 2 ^ k) (2 ^ 149) x
    go nan t = t
    go (inf s) t = t
    go (fin s m e) t = leb→le (m * up e * 2 ^ 149) (1 * 2 ^ k * down e) t

-- ---- the twiddles: no part is above 1 in magnitude
abbrev ones : List Float → Bool
ones [] = true
ones (x ∷ xs) = upto 149 x && ones xs

ones_each : (xs : List Float) → T (ones xs) → Each (Size 149 1) xs
ones_each [] t = none
ones_each (x ∷ xs) t = also (size_of 149 x (and_l (upto 149 x) (ones xs) t)) (ones_each xs (and_r (upto 149 x) (ones xs) t))

abbrev small : ℕ → Bool
small n = (ones (fft_re n) && ones (fft_im n)) && (ones (dct_re n) && ones (dct_im n))

small_test : T (every (λ k n. small n) 0 sizes)
unfolding sizes start fft_re fft_im dct_re dct_im fft_re_bits fft_im_bits dct_re_bits dct_im_bits of_bits of_fields odd count_trailing_zeros
small_test = tt

both_small : (n : ℕ) (res ims : List Float) → length res ≡ n → length ims ≡ n → T (ones res && ones ims) → (i : ℕ) → i < n → Small (at res ims i)
both_small n res ims a b t i I =
    record {
      r = each_at nan i (ones_each res (and_l (ones res) (ones ims) t)) (subst (λ (m : ℕ). i < m) (sym a) I);
      i = each_at nan i (ones_each ims (and_r (ones res) (ones ims) t)) (subst (λ (m : ℕ). i < m) (sym b) I);
    }

module _ (n : ℕ) (s : T (among fft_sizes n)) where
  ours : T (among sizes n)
  ours = subst T (twiddles.same_sizes n) s

  pub fft_small : (i : ℕ) → i < n → Small (twiddle n false i)
  unfolding twiddle fft_im_of
  fft_small =
      let l = twiddles.sized n ours in
      both_small n (fft_re n) (fft_im n) l.fft-re l.fft-im (and_l (ones (fft_re n) && ones (fft_im n)) _ (at-among small sizes small_test n ours))

  pub dct_small : (i : ℕ) → i < n → Small (dct_twiddle n i)
  unfolding dct_twiddle
  dct_small =
      let l = twiddles.sized n ours in
      both_small n (dct_re n) (dct_im n) l.dct-re l.dct-im (and_r (ones (fft_re n) && ones (fft_im n)) _ (at-among small sizes small_test n ours))

-- ---- the plan's growth, and the gain that goes with it
tame_test : T (every (λ k c. tame c) 0 configs)
unfolding row rows half plan lengths gain_bits gain of_bits of_fields odd count_trailing_zeros
tame_test = tt

pub tame_all : (c : ℕ) → T (valid c) → T (tame c)
tame_all = each tame tame_test

module _ (c : ℕ) (v : T (valid c)) where
  pub plan_grows : growth (plan (half c)) ≤ 14
  plan_grows = leb→le _ 14 (and_l (leb (growth (plan (half c))) 14) _ (tame_all c v))

  pub gain-size : Size (159 - growth (plan (half c))) 1 (gain (nf c))
  gain-size = size_of _ (gain (nf c)) (and_r (leb (growth (plan (half c))) 14) _ (tame_all c v))

-- ---- the window: every entry is at most 2
pub entry_size : (c : ℕ) → T (valid c) → (k : ℕ) → k < 2 * nf c → Size 150 1 (of_bits binary32 (get_or (windows.window c) k 0))
unfolding windows.small
entry_size c v k h = sized 1 (of_bits binary32 (get_or (windows.window c) k 0)) (go (of_bits binary32 (get_or (windows.window c) k 0)) (rule.window_small c v k h))
  where
    go : (x : Float) → T (windows.small x) → Within (2 ^ 1) 1 x
    go nan t = t
    go (inf s) t = t
    go (fin s m e) t = one_over (m * up e) (2 * down e) t

pub entries_size : (c : ℕ) → T (valid c) → Each (λ b. Size 150 1 (of_bits binary32 b)) (windows.window c)
entries_size c v = each_of 0 (windows.window c) (λ k h. entry_size c v k (subst (λ (n : ℕ). k < n) (rule.window_length c v) h))
