-- Whole numbers as f32, such as the widths of bands. Assumes nothing.
use mathlib.Core.Bool.{false}
use Prim.Native.Nat.{ℕ, ◌^◌, ◌≤◌}
use native.Mathlib.Omega.{arith}
use lib.Dec.{T}
use lib.IntN.{pos}
use lib.Ieee.{binary32, of_int, in_float}
use lib.Ieee.Exact.{HasValue}
use lib.Ieee.Back.{round_whole}
use denote.Floats.{passes}
use borrow.Author.Tests.{le-leb}

-- a width is a number of the format
pub width_fits : (n : ℕ) → n ≤ 480 → T (in_float binary32 (pos n))
unfolding in_float
width_fits n h = passes _ (le-leb n 16777216 (omega arith))

-- and it is its own value
pub whole-value : (n : ℕ) → n ≤ 2 ^ 24 → HasValue (of_int binary32 (pos n)) false n 1
unfolding of_int
whole-value n h = round_whole binary32 false n h
