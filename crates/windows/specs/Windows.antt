-- The window of each configuration as bits (mdct_windows.rs), and what document 01 asks of an entry. Definitions only.
use Rattle.std.specs.Prelude.{Bool, false, not, List, ℕ, zero, suc, ◌+◌, ◌*◌, ◌<◌, T, leb, length, get_or, take, drop, Float}
use Rattle.std.specs.Float.{nan, inf, fin, binary32}
use Rattle.std.specs.Float.Ieee.{up, down, nan_bits}
use Rattle.config.specs.Config.{nf}
use Rattle.windows.specs.Tables.{entries}

-- where a configuration's window starts in the table of all: after the windows of those before it, each of 2 nf entries
unfoldable pub start : ℕ → ℕ
start zero = 0
start (suc c) = start c + 2 * nf c

-- the window of a configuration: W_N60_7P5MS and so on
unfoldable pub window : ℕ → List ℕ
window c = take (2 * nf c) (drop (start c) entries)

-- "finite and at most 2 in magnitude"
unfoldable pub small : Float → Bool
small nan = false
small (inf s) = false
small (fin s m e) = leb (m * up e) (2 * down e)

-- no entry is a NaN's pattern
abbrev pub Numbers : List ℕ → Type 0
Numbers w = (k : ℕ) → k < length w → T (not (nan_bits binary32 (get_or w k 0)))
