-- A synthesis frame with its gain and window at hand. Definitions only.
use Rattle.std.specs.Prelude.{ℕ, ◌*◌, List, Float}
use Rattle.dct_steps.specs.Dct.{dct_iv}
use Rattle.synthesis_steps.specs.Places.{padded, unfolded, windowed}
use Rattle.gains.specs.Gains.{scaled}

-- run: the 2 nf places of a frame of lines, whose DCT is unfolded, scaled and windowed
unfoldable pub places : ℕ → Float → List ℕ → List Float → List Float
places h g w x = windowed w (scaled g (unfolded h (dct_iv (padded (2 * h) x))))
