-- Values that show that smaller bounds are false, by computation. Assumes nothing.
use Prim.Native.Nat.{ℕ, ◌*◌, ◌^◌}
use native.Mathlib.Nat.{lt_irrefl, lt_of_lt_of_le}
use mathlib.Core.Path.{refl}
use mathlib.Core.Bool.{Bool, false}
use lib.Dec.{T, ltb, ltb→lt}
use lib.Ieee.{Float, nan, inf, fin, up, down, of_bits, of_fields, odd, units, round, neg, sum, add, sub, mul, div, of_int}
use lib.Count.{count_trailing_zeros}
use Rattle.laws.specs.Lists.{tab}
use Rattle.config.specs.Tables.{rows, edge_rows}
use Rattle.config.specs.Config.{row, half, edges}
use Rattle.windows.specs.Tables.{entries}
use Rattle.windows.specs.Windows as windows
use Rattle.twiddles.specs.Tables.{sizes, fft_re_bits, fft_im_bits, dct_re_bits, dct_im_bits}
use Rattle.twiddles.specs.Twiddles.{start, fft_re, fft_im, fft_im_of, dct_re, dct_im, twiddle, dct_twiddle}
use Rattle.butterflies.specs.Butterflies.{stage, column2, column3, column5}
use Rattle.kf_work.specs.Work.{plan, column, work, spectrum}
use Rattle.dct_steps.specs.Dct.{dct_iv}
use Rattle.analysis_steps.specs.Buffer.{past_of, buffer_step, buffer_of}
use Rattle.analysis_steps.specs.Fold.{weighed, fold_low, fold_high, folded}
use Rattle.gains.specs.Tables.{lengths, gain_bits}
use Rattle.gains.specs.Gains.{gain, scaled}
use Rattle.measurement_steps.specs.Energy.{share, energy, band_of, energies}
use Rattle.analysis_lines.specs.Lines.{time_buffer, mdct, lines_of}
use Rattle.analysis.specs.Analysis.{cleared, frames}
use Rattle.measurement.specs.Measurement.{energies_of}
use Rattle.bounds.specs.Within.{Within}
use Rattle.promises.specs.NoOverflow.{line0, energy0, Reached}

-- above a, as a test that antt computes
abbrev above : ℕ → Float → Bool
above a nan = false
above a (inf s) = false
above a (fin s m e) = ltb (a * down e) (m * up e * 1)

not_within : (a : ℕ) (x : Float) → T (above a x) → Within a 1 x → ⊥
not_within a nan t h = h
not_within a (inf s) t h = h
not_within a (fin s m e) t h = lt_irrefl (a * down e) (lt_of_lt_of_le (ltb→lt (a * down e) (m * up e * 1) t) h)

pub reached : Reached
unfolding cleared frames lines_of mdct time_buffer buffer_step past_of buffer_of scaled folded fold_low fold_high weighed dct_iv spectrum work column column2 column3 column5 stage plan twiddle fft_im_of fft_re fft_im dct_twiddle dct_re dct_im gain start sizes fft_re_bits fft_im_bits dct_re_bits dct_im_bits lengths gain_bits windows.window windows.start entries row rows half tab of_bits of_fields odd count_trailing_zeros units round neg sum add sub mul div of_int energies_of energies band_of energy share edges edge_rows
reached = record { line_above = not_within (2 ^ 16) line0 tt; energy_above = not_within (2 ^ 32) energy0 tt; square_is = refl; column_is = refl }
