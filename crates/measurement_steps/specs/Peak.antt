-- The peak of a band (document 02 §12): "its first line with the greatest line·line product". Definitions only.
use Rattle.std.specs.Prelude.{ℕ, ◌+◌, cond, List, map, length, get_or, take, Float}
use Rattle.std.specs.Float.{nan, binary32}
use Rattle.std.specs.Float.Ieee.{mul, div, lt}
use Rattle.laws.specs.Lists.{tab}
use Rattle.laws.specs.Numbers.{zero32}
use Rattle.laws.specs.Greatest.{best}
use Rattle.measurement_steps.specs.declared.Reading.{Reading}
use Rattle.measurement_steps.specs.Energy.{sum_of, energy, band_of}

-- the values ranked: a line times itself, one f32 product
abbrev pub square : Float → Float
square x = mul binary32 x x

abbrev pub squares : List Float → List Float
squares lines = map square lines

-- the peak of a band, from its lines and counted from the first of them
unfoldable pub peak : List Float → ℕ
peak lines = best (squares lines) (length lines)

-- the peak of band b: "the index, from line 0 of the frame"
abbrev pub peak_of : List ℕ → List Float → ℕ → ℕ
peak_of edges lines b = get_or edges b 0 + peak (band_of edges lines b)

-- the peaks of nb bands
unfoldable pub peaks : ℕ → List ℕ → List Float → List ℕ
peaks nb edges lines = tab nb (peak_of edges lines)

-- ---- for the contracts of the steps
-- a line's share, by the width as a number of the format
abbrev pub share_by : Float → Float → Float
share_by width x = div binary32 (square x) width

-- what a band of the given width has come to after its first n lines: the sum of their shares, the first of them with the greatest product, and that product
unfoldable pub up_to : Float → List Float → ℕ → Reading
up_to width lines n = record {
  energy = sum_of (share_by width) zero32 (take n lines);
  peak = best (squares lines) n;
  greatest = get_or (squares lines) (best (squares lines) n) nan;
}

-- the same after all of them
unfoldable pub whole : List Float → Reading
whole lines = record { energy = energy lines; peak = peak lines; greatest = get_or (squares lines) (peak lines) nan }

-- with line i in the peak's stead where its product is greater
abbrev pub higher : Reading → ℕ → Float → Reading
higher b i product = record {
  energy = b.energy;
  peak = cond (lt b.greatest product) i b.peak;
  greatest = cond (lt b.greatest product) product b.greatest;
}

-- a band whose first line is line `from` of the frame
abbrev pub placed : ℕ → Reading → Reading
placed from b = record { energy = b.energy; peak = from + b.peak; greatest = b.greatest }
