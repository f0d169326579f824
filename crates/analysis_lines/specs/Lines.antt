-- The first half of an analysis frame (`ModDiscreteCosTrans::run` of the encoder): frame and past to lines. Definitions only.
use Rattle.std.specs.Prelude.{List, ℕ, ℤ, Float}
use Rattle.config.specs.Config.{nf, z}
use Rattle.windows.specs.Windows.{window}
use Rattle.dct_steps.specs.Dct.{dct_iv}
use Rattle.analysis_steps.specs.Buffer.{buffer_step, buffer_of}
use Rattle.analysis_steps.specs.Fold.{folded}
use Rattle.gains.specs.Gains.{gain, scaled}

-- `update_time_buffer`: the time buffer of the frame x, from one that holds its past
unfoldable pub time_buffer : ℕ → List ℤ → List ℤ → List ℤ
time_buffer c past x = buffer_step (nf c) (z c) (buffer_of (nf c) (z c) past) x

-- `apply_mdct`: fold with window, DCT, gain
unfoldable pub mdct : ℕ → List ℤ → List Float
mdct c t = scaled (gain (nf c)) (dct_iv (folded (nf c) (window c) t))

-- the lines of the frame x after its past
unfoldable pub lines_of : ℕ → List ℤ → List ℤ → List Float
lines_of c past x = mdct c (time_buffer c past x)
