-- How near values computed in f32 are to sums in f64: as a power of two of the sums' peak. Definitions only.
use Rattle.std.specs.Prelude.{ℕ, zero, suc, ◌+◌, ◌*◌, min, cond, List, drop, from_bits, slice_index_or, Float}
use Rattle.std.specs.Float.{nan, binary64}
use Rattle.std.specs.Float.Ieee.{neg, sub, add, lt, le}
use Rattle.call_log.specs.Log.{word}

-- 64 bits at the front of b, little-endian
abbrev pub long : List ℕ → ℕ
long b = word b + 0x100000000 * word (drop 4 b)

-- sum k of those that b holds, an f64 each
unfoldable pub sum_of : List ℕ → ℕ → Float
sum_of b k = from_bits binary64 (long (drop (8 * k) b))

abbrev pub zero64 : Float
zero64 = from_bits binary64 0

unfoldable pub magnitude : Float → Float
magnitude x = cond (lt x zero64) (neg x) x

abbrev pub larger : Float → Float → Float
larger a b = cond (lt a b) b a

-- the greatest magnitude of the first n sums
unfoldable pub peak : List ℕ → ℕ → Float
peak b zero = zero64
peak b (suc n) = larger (peak b n) (magnitude (sum_of b n))

-- how often d doubles, n times at most, and is not above p: d is at most 2^-r of p. A NaN never does.
unfoldable pub doublings : ℕ → Float → Float → ℕ
doublings zero d p = 0
doublings (suc n) d p = cond (le (add binary64 d d) p) (suc (doublings n (add binary64 d d) p)) 0

-- the same for a value's error against its sum, 60 times at most
abbrev pub near : Float → Float → Float → ℕ
near x s p = doublings 60 (magnitude (sub binary64 x s)) p

-- the least of the first n values
unfoldable pub least : List Float → List ℕ → Float → ℕ → ℕ
least xs b p zero = 60
least xs b p (suc n) = min (least xs b p n) (near (slice_index_or xs n nan) (sum_of b n) p)
