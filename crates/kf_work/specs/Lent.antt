-- What the transform asks of the slices that it is lent. Definitions only.
use Rattle.std.specs.Prelude.{◌≡◌, List, ℕ, ◌*◌, ◌+◌, ◌<◌, ◌≤◌, T, length, Float}
use Rattle.config.specs.Config.{among, fft_sizes}
use Rattle.kf_work.specs.Work.{span, planned}
use Rattle.kf_work.specs.Packed.{fives}

-- of p innermost stages of `kf_work`, from place o of the input on: five numbers for each at stride s p, three twiddles, and five places for each
pub record LeavesFit (p s o : ℕ) (x y tr ti re im : List Float) : Type 0 where
  pub starts : o < s
  pub x_fits : 5 * (s * p) ≤ length x
  pub y_fits : 5 * (s * p) ≤ length y
  pub tr_fits : 3 ≤ length tr
  pub ti_fits : 3 ≤ length ti
  pub re_fits : p * 5 ≤ length re
  pub im_fits : p * 5 ≤ length im

-- of `kf_work` by the plan ps, from place o of the input on at stride s: a whole plan, whose innermost stage and no other has radix 5, with a stage above it;
-- all numbers that it reads; its packed twiddles, one fewer than its size; and a block of its size
pub record WorkFits (ps : List ℕ) (s o : ℕ) (x y tr ti re im : List Float) : Type 0 where
  pub radixes : T (planned ps)
  pub innermost_five : T (fives ps)
  pub stages : 2 < length ps
  pub starts : o < s
  pub x_fits : span ps * s ≤ length x
  pub y_fits : span ps * s ≤ length y
  pub tr_fits : span ps ≤ 1 + length tr
  pub ti_fits : span ps ≤ 1 + length ti
  pub re_fits : span ps ≤ length re
  pub im_fits : span ps ≤ length im

-- of a whole transform: as many numbers as some configuration's FFT has, and as many places
abbrev pub TransformFits : List Float → List Float → List Float → List Float → Type 0
TransformFits x y re im = T (among fft_sizes (length x)) × (length y ≡ length x) × (length re ≡ length x) × (length im ≡ length x)
