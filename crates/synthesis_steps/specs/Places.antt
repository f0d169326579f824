-- The steps of decoder/modified_dct.rs, in its order, on lists. n is nf, h is nf / 2. Definitions only.
use Rattle.std.specs.Prelude.{ℕ, ◌+◌, ◌-◌, ◌*◌, ◌<◌, ◌≡◌, length, get_or, take, drop, replicate, Float}
use mathlib.Core.List.{List, ◌++◌, map, reverse, zip_with}
use Rattle.std.specs.Float.{nan, binary32}
use Rattle.std.specs.Float.Ieee.{neg, add, mul, of_bits}
use Rattle.laws.specs.Numbers.{zero32}

-- run: the lines, and zeros after them to n places
unfoldable pub padded : ℕ → List Float → List Float
padded n x = x ++ replicate (n - length x) zero32

-- apply_mdct_inverse: the values, and after them the values backwards and negated
unfoldable pub mirrored : List Float → List Float
mirrored b = b ++ map neg (reverse b)

-- apply_mdct_inverse: of these the first h moved aside, the others moved h places to the left, and what was aside negated behind them
unfoldable pub unfolded : ℕ → List Float → List Float
unfolded h b = drop h (mirrored b) ++ map neg (take h (mirrored b))

-- run: every place times the window, whose bits are read backwards
unfoldable pub windowed : List ℕ → List Float → List Float
windowed w t = zip_with (mul binary32) t (map (of_bits binary32) (reverse w))

-- the places of the values b and the window w, in one word
abbrev pub places : ℕ → List Float → List ℕ → List Float
places h b w = windowed w (unfolded h b)

-- overlap_add: memory + places z to n - 1, then places n to n + z - 1 as they are
unfoldable pub output : ℕ → ℕ → List Float → List Float → List Float
output n z m t = zip_with (add binary32) m (take (n - z) (drop z t)) ++ take z (drop n t)

-- overlap_add: the new memory, places n + z to 2 * n - 1
unfoldable pub remains : ℕ → ℕ → List Float → List Float
remains n z t = drop (n + z) t

-- document 01, module 6, last sentence: bit for bit, before the window
pub record Mirrors (h : ℕ) (t : List Float) : Type 0 where
  -- a place of the first half is the negative of the one that stands as far from the half's other end
  pub antisymmetric : (k : ℕ) → k < 2 * h → get_or t k nan ≡ neg (get_or t (2 * h - 1 - k) nan)
  -- a place of the second half is the one that stands as far from the half's other end
  pub symmetric : (k : ℕ) → k < 2 * h → get_or t (2 * h + k) nan ≡ get_or t (4 * h - 1 - k) nan
