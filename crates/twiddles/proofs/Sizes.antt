-- The sizes of the twiddles are the FFT sizes of the configurations, and each table has as many entries as its size: computed tests over the
-- sizes, and a law at each. Assumes nothing.
use mathlib.Core.Path.{◌≡◌, refl, sym, ap, ap₂, ◌∙◌}
use mathlib.Core.Bool.{Bool, cond, ◌&&◌}
use mathlib.Core.List.{List, [], ◌++◌}
use Prim.Native.Nat.{ℕ, ◌+◌}
use lib.Dec.{T, eqb, eqb→eq}
use lib.ListN.{length, take, drop, length-append}
use lib.Seq.{take-append_seam, drop-append_seam}
use lib.Ieee.{Float}
use lib.Ieee.Fits.{and_l, and_r}
use lib.Ieee.Bits.{is_true}
use Rattle.laws.proofs.Table.{every}
use Rattle.config.specs.Tables.{rows}
use Rattle.config.specs.Config.{row, half, among, fft_sizes}
use Rattle.config.proofs.Among.{at-among, same_among}
use Rattle.twiddles.specs.Tables.{sizes, fft_re_bits, fft_im_bits, dct_re_bits, dct_im_bits}
use Rattle.twiddles.specs.Twiddles.{start, fft_re, fft_im, dct_re, dct_im, dct_table, dct_lent}

ours : T (every (λ k n. among sizes n) 0 fft_sizes)
unfolding sizes fft_sizes half row rows
ours = tt

theirs : T (every (λ k n. among fft_sizes n) 0 sizes)
unfolding sizes fft_sizes half row rows
theirs = tt

-- a size of the configurations is a size of the tables, and the other way round
pub same_sizes : (n : ℕ) → among fft_sizes n ≡ among sizes n
same_sizes n = same_among fft_sizes sizes ours theirs n

pub record Sized (n : ℕ) : Type 0 where
  pub fft-re : length (fft_re n) ≡ n
  pub fft-im : length (fft_im n) ≡ n
  pub dct-re : length (dct_re n) ≡ n
  pub dct-im : length (dct_im n) ≡ n

abbrev filled : ℕ → Bool
filled n = eqb (length (fft_re n)) n && (eqb (length (fft_im n)) n && (eqb (length (dct_re n)) n && eqb (length (dct_im n)) n))

test : T (every (λ k n. filled n) 0 sizes)
unfolding sizes start fft_re fft_im dct_re dct_im fft_re_bits fft_im_bits dct_re_bits dct_im_bits
test = tt

pub sized : (n : ℕ) → T (among sizes n) → Sized n
sized n s =
    let t1 : T (filled n) = at-among filled sizes test n s in
    let t2 = and_r (eqb (length (fft_re n)) n) _ t1 in
    let t3 = and_r (eqb (length (fft_im n)) n) _ t2 in
    record {
      fft-re = eqb→eq (length (fft_re n)) n (and_l (eqb (length (fft_re n)) n) _ t1);
      fft-im = eqb→eq (length (fft_im n)) n (and_l (eqb (length (fft_im n)) n) _ t2);
      dct-re = eqb→eq (length (dct_re n)) n (and_l (eqb (length (dct_re n)) n) _ t3);
      dct-im = eqb→eq (length (dct_im n)) n (and_r (eqb (length (dct_re n)) n) _ t3);
    }

-- what the code's tables of a size hold: n real parts, then n imaginary parts
pub record Halved (n : ℕ) (re im t : List Float) : Type 0 where
  pub re_is : take n t ≡ re
  pub im_is : drop n t ≡ im
  pub re_fits : length (take n t) ≡ n
  pub im_fits : length (drop n t) ≡ n
  pub fits : length t ≡ n + n

pub halved : (n : ℕ) (re im t : List Float) → t ≡ re ++ im → length re ≡ n → length im ≡ n → Halved n re im t
halved n re im t e l m =
    let r : take n t ≡ re = ap₂ take (sym l) e ∙ take-append_seam re im in
    let i : drop n t ≡ im = ap₂ drop (sym l) e ∙ drop-append_seam re im in
    record { re_is = r; im_is = i; re_fits = ap length r ∙ l; im_fits = ap length i ∙ m; fits = ap length e ∙ length-append re im ∙ ap₂ ◌+◌ l m }

-- what is lent at a size
pub lent_at : {A : Type 0} (n : ℕ) (l : List A) → T (among fft_sizes n) → cond (among fft_sizes n) l [] ≡ l
lent_at n l s = rw (is_true (among fft_sizes n) s) refl

pub dct_halves : (n : ℕ) → T (among fft_sizes n) → (t : List Float) → t ≡ dct_lent n → Halved n (dct_re n) (dct_im n) t
unfolding dct_table dct_lent
dct_halves n s t e =
    let tables = sized n (rw (same_sizes n) at s) in
    halved n (dct_re n) (dct_im n) t (e ∙ lent_at n (dct_table n) s) tables.dct-re tables.dct-im
