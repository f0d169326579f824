-- The runs of the fold, each of which reads the past, the frame or the zeros where they stand: for the contracts of the steps. Definitions only.
use Rattle.std.specs.Prelude.{◌≡◌, List, ℕ, ◌+◌, ◌-◌, ◌*◌, ◌/◌, ◌≤◌, ℤ, pos, length, get_or, replicate, Float}
use Rattle.std.specs.Float.{binary32}
use Rattle.std.specs.Float.Ieee.{sub, mul, neg, of_bits}
use Rattle.laws.specs.Numbers.{zero32}
use Rattle.windows.specs.Windows.{Numbers}
use Rattle.analysis_steps.specs.Buffer.{buffer_of, buffer_step}
use Rattle.analysis_steps.specs.Fold.{weighed, folded}

-- n zeros
abbrev pub quiet : ℕ → List ℤ
quiet n = replicate n (pos 0)

-- how a first half joins two weighed samples
abbrev pub low : Float → Float → Float
low a b = sub binary32 (neg a) b

-- place i of a first half, backwards and forwards from place m
abbrev pub low_at : List ℤ → List ℕ → ℕ → ℕ → Float
low_at t w m i = low (weighed t w (m - 1 - i)) (weighed t w (m + i))

-- +0.0 by entry k
abbrev pub still : List ℕ → ℕ → Float
still w k = mul binary32 zero32 (of_bits binary32 (get_or w k 0))

-- a frame x of n samples, a past and a window that fit: the buffer has 2 n places, of which no more than half a frame are zeros
abbrev pub FoldFits : ℕ → List ℤ → List ℤ → List ℕ → Type 0
FoldFits n past x w =
    (n ≤ 480) × (n ≡ 2 * (n / 2)) × (length x ≡ n) × (length past ≤ n) × (n - length past ≤ n / 2) × (length w ≡ 2 * n) × Numbers w

-- the time buffer that a past and a frame of n samples make, folded
abbrev pub folded_of : ℕ → List ℕ → List ℤ → List ℤ → List Float
folded_of n w past x = folded n w (buffer_step n (n - length past) (buffer_of n (n - length past) past) x)
