-- Document 02 §1 in numbers, each row by computation; two lists of numbers by a test over both. Assumes nothing.
use Prim.Native.Nat.{ℕ, ◌≤◌}
use mathlib.Core.Path.{◌≡◌, refl}
use mathlib.Core.Bool.{false}
use mathlib.Core.List.{zip_with}
use native.Mathlib.Omega.{arith}
use lib.Ieee.{add}
use borrow.Author.Tests.{lt-leb}
use Rattle.laws.specs.Lists.{tab}
use Rattle.config.specs.Tables.{rows}
use Rattle.config.specs.Config.{largest, valid, row, half, fft_sizes, dct_lengths}
use Rattle.config.proofs.Among.{same_among}
use Rattle.kf_work.specs.Work.{plan}
use Rattle.analysis_steps.specs.Buffer.{past_of, buffer_step}
use Rattle.synthesis_steps.specs.Places.{output, remains}
use Rattle.promises.specs.Short.{all_sizes, all_lengths, Short}

none_above : (c : ℕ) → 20 ≤ c → valid c ≡ false
none_above c h = lt-leb c largest (omega arith)

pub short : Short
unfolding row rows half fft_sizes dct_lengths plan tab buffer_step past_of output remains zip_with add
short =
    record {
      five_lasts = refl;
      two_and_a_half_lasts = refl;
      five_rates = refl;
      two_and_a_half_rates = refl;
      five_lengths = refl;
      two_and_a_half_lengths = refl;
      five_zeros = refl;
      two_and_a_half_zeros = refl;
      five_bands = refl;
      two_and_a_half_bands = refl;
      five_coded = refl;
      two_and_a_half_coded = refl;
      five_upper = refl;
      two_and_a_half_upper = refl;
      plan_10 = refl;
      plan_20 = refl;
      last = refl;
      none_above = none_above;
      sizes = same_among fft_sizes all_sizes tt tt;
      lengths = same_among dct_lengths all_lengths tt tt;
      buffer_whole = λ a0 a1 a2 a3 a4 a5 a6 a7 b0 b1 b2 b3. refl;
      overlap_whole = λ m0 m1 m2 m3 t0 t1 t2 t3 t4 t5 t6 t7. refl;
      memory_whole = λ t0 t1 t2 t3 t4 t5 t6 t7. refl;
    }
