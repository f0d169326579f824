-- What the values of the DCT of a frame are unfolded to, over the configuration. Definitions only.
use Rattle.std.specs.Prelude.{List, ℕ, Float}
use Rattle.config.specs.Config.{nf, half}
use Rattle.windows.specs.Windows.{window}
use Rattle.synthesis_steps.specs.Places.{unfolded, windowed}
use Rattle.gains.specs.Gains.{gain, scaled}

-- the 2 nf places of the values y, times the gain, with the window
abbrev pub spread : ℕ → List Float → List Float
spread c y = windowed (window c) (unfolded (half c) (scaled (gain (nf c)) y))
