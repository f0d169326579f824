-- The energies of the bands (`apply_energy_estimation`), and what the flag compares (`is_near_nyquist`). Definitions only.
use Rattle.std.specs.Prelude.{Bool, List, [], ◌∷◌, ℕ, ◌+◌, ◌-◌, pos, length, get_or, take, drop, Float}
use Rattle.std.specs.Float.{binary32}
use Rattle.std.specs.Float.Ieee.{of_bits, add, mul, div, lt, of_int}
use Rattle.laws.specs.Numbers.{zero32}
use Rattle.laws.specs.Lists.{tab}

-- f of each, added to acc in their order, each sum rounded
abbrev pub sum_of : (Float → Float) → Float → List Float → Float
sum_of f acc [] = acc
sum_of f acc (x ∷ xs) = sum_of f (add binary32 acc (f x)) xs

-- (line * line) / width
unfoldable pub share : ℕ → Float → Float
share width x = div binary32 (mul binary32 x x) (of_int binary32 (pos width))

-- the energy of a band, from its lines
unfoldable pub energy : List Float → Float
energy lines = sum_of (share (length lines)) zero32 lines

-- the lines of band b
unfoldable pub band_of : List ℕ → List Float → ℕ → List Float
band_of edges lines b = take (get_or edges (b + 1) 0 - get_or edges b 0) (drop (get_or edges b 0) lines)

-- the energies of nb bands
unfoldable pub energies : ℕ → List ℕ → List Float → List Float
energies nb edges lines = tab nb (λ b. energy (band_of edges lines b))

-- the sum of energies
unfoldable pub total : List Float → Float
total es = sum_of (λ x. x) zero32 es

-- the bands from split on exceed 30.0 times those before it
unfoldable pub exceeds : ℕ → List Float → Bool
exceeds split es = lt (mul binary32 (of_bits binary32 0x41f00000) (total (take split es))) (total (drop split es))
