-- What is promised of each configuration, and what the proofs above need of it. Definitions only.
use Rattle.std.specs.Prelude.{◌≡◌, ℕ, ◌-◌, ◌*◌, ◌≤◌, ◌<◌, T, get_or, length}
use Rattle.laws.specs.Lists.{Rising}
use Rattle.config.specs.Config.{valid, nf, z, ne, nb, rate, duration, upper, half, edges, among, fft_sizes, dct_lengths}

pub record Sound (c : ℕ) : Type 0 where
  -- a frame has twice as many samples as the FFT has points
  pub even : nf c ≡ 2 * half c
  -- the FFT has a point at least
  pub half_pos : 0 < half c
  -- the window's zeros are less than half a frame
  pub z_lt : 2 * z c < nf c
  -- no frame is longer than 480 samples
  pub nf_le : nf c ≤ 480
  -- what a channel keeps fits its 300 places
  pub keep_le : nf c - z c ≤ 300
  -- no more lines are coded than a frame has
  pub ne_le : ne c ≤ nf c
  -- there is a band
  pub nb_pos : 0 < nb c
  -- there are at most 64
  pub nb_le : nb c ≤ 64
  -- no more bands are upper than there are
  pub upper_le : upper c ≤ nb c
  -- at its rate a frame's samples last its duration
  pub lasts : nf c * 1000000 ≡ rate c * duration c
  -- the FFT accepts its size
  pub fft_size : T (among fft_sizes (half c))
  -- the DCT accepts its length
  pub dct_length : T (among dct_lengths (nf c))
  -- the edges stand in 65 places
  pub edges_65 : length (edges c) ≡ 65
  -- the first band begins at line 0
  pub edges_from : get_or (edges c) 0 0 ≡ 0
  -- the last band ends where the coded lines end
  pub edges_to : get_or (edges c) (nb c) 0 ≡ ne c
  -- each band has a line at least, and none goes past the coded lines
  pub rising : Rising (nb c) (edges c) (ne c)

-- of every configuration
abbrev pub AllSound : Type 0
AllSound = (c : ℕ) → T (valid c) → Sound c
