-- The fold with the window (`apply_mdct`, but for its DCT and its gain). Definitions only.
use Rattle.std.specs.Prelude.{List, ◌++◌, ℕ, ◌+◌, ◌-◌, ◌*◌, ◌/◌, ℤ, pos, get_or, Float}
use Rattle.std.specs.Float.{binary32}
use Rattle.std.specs.Float.Ieee.{sub, mul, neg, of_int, of_bits}
use Rattle.laws.specs.Lists.{tab}

-- sample k of the buffer, as an f32, times entry k of the window
unfoldable pub weighed : List ℤ → List ℕ → ℕ → Float
weighed t w k = mul binary32 (of_int binary32 (get_or t k (pos 0))) (of_bits binary32 (get_or w k 0))

-- place i of the first half: -(a * w) - (b * w), a backwards and b forwards from place 3 h; h is nf / 2
unfoldable pub fold_low : ℕ → List ℕ → List ℤ → ℕ → Float
fold_low h w t i = sub binary32 (neg (weighed t w (3 * h - 1 - i))) (weighed t w (3 * h + i))

-- place i of the second half: a * w - b * w, a forwards from place 0 and b backwards from place 2 h
unfoldable pub fold_high : ℕ → List ℕ → List ℤ → ℕ → Float
fold_high h w t i = sub binary32 (weighed t w i) (weighed t w (2 * h - 1 - i))

-- both halves, from a buffer and a window of 2 nf places
unfoldable pub folded : ℕ → List ℕ → List ℤ → List Float
folded nf w t = tab (nf / 2) (fold_low (nf / 2) w t) ++ tab (nf / 2) (fold_high (nf / 2) w t)
