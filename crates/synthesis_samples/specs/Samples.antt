-- A synthesis frame (`ModDiscreteCosTrans::run` of the decoder): lines and memory to samples and memory. Definitions only.
use Rattle.std.specs.Prelude.{ℕ, List, Float}
use Rattle.config.specs.Config.{nf, z, half}
use Rattle.windows.specs.Windows.{window}
use Rattle.gains.specs.Gains.{gain}
use Rattle.synthesis_steps.specs.Places.{output, remains}
use Rattle.synthesis_frame.specs.Frame.{places}

-- the 2 nf places of a frame of lines, under the configuration's gain and window
unfoldable pub places_of : ℕ → List Float → List Float
places_of c x = places (half c) (gain (nf c)) (window c) x

-- the samples of a frame of lines after a past
unfoldable pub samples_of : ℕ → List Float → List Float → List Float
samples_of c past x = output (nf c) (z c) past (places_of c x)

-- the memory that the frame leaves: the next one's past
unfoldable pub memory_of : ℕ → List Float → List Float
memory_of c x = remains (nf c) (z c) (places_of c x)
