-- What is promised of every entry of every window. Definitions only.
use Rattle.std.specs.Prelude.{◌≡◌, ℕ, ◌*◌, ◌<◌, T, get_or, length}
use Rattle.std.specs.Float.{binary32}
use Rattle.std.specs.Float.Ieee.{of_bits}
use Rattle.config.specs.Config.{valid, nf}
use Rattle.windows.specs.Windows.{window, small, Numbers}

pub record Rule : Type 0 where
  -- the window of each configuration has 2 nf entries
  pub window_length : (c : ℕ) → T (valid c) → length (window c) ≡ 2 * nf c
  -- "all 4,480 window entries are finite and at most 2 in magnitude"; with those of document 02 §1 6,400
  pub window_small : (c : ℕ) → T (valid c) → (k : ℕ) → k < 2 * nf c → T (small (of_bits binary32 (get_or (window c) k 0)))
  -- none is a NaN's pattern, so each may be made a float from its bits
  pub window_numbers : (c : ℕ) → T (valid c) → Numbers (window c)
