-- The first with the greatest, of any values that can be ranked: products of bands, products of lines. Definitions only.
use Rattle.std.specs.Prelude.{ℕ, zero, suc, ◌<◌, ◌≡◌, false, cond, List, T, length, get_or, Float}
use Rattle.std.specs.Float.{nan}
use Rattle.std.specs.Float.Ieee.{lt}

-- in words: greater than all before it, no less than all after it
pub record First (l : List Float) (b : ℕ) : Type 0 where
  pub inside : b < length l
  pub before : (k : ℕ) → k < b → T (lt (get_or l k nan) (get_or l b nan))
  pub after : (k : ℕ) → b < k → k < length l → lt (get_or l b nan) (get_or l k nan) ≡ false

-- by a scan: place k in the stead of the best so far where it is greater
abbrev pub better : List Float → ℕ → ℕ → ℕ
better l b k = cond (lt (get_or l b nan) (get_or l k nan)) k b

-- the best of the first n places
unfoldable pub best : List Float → ℕ → ℕ
best l zero = 0
best l (suc n) = better l (best l n) n
