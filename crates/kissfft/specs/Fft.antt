-- The answer to a call of the FFT: its refusals in document 01's order, and what it leaves in the output slices. Definitions only.
use Rattle.std.specs.Prelude.{Bool, cond, ◌&&◌, List, ℕ, min, ltb, eqb, Float, length, Option, Some, None}
use Rattle.laws.specs.Lists.{first}
use Rattle.laws.specs.Passes.{passes6}
use Rattle.complex.specs.Complex.{at}
use Rattle.config.specs.Config.{among, fft_sizes}
use Rattle.refusals.specs.declared.Verdict.{Verdict}
use Rattle.refusals.specs.Refusals.{accepted, bad_size, bad_input, bad_output, bad_value, verdict_of}
use Rattle.twiddles.specs.Twiddles.{twiddle}
use Rattle.kf_work.specs.Work.{spectrum, reals, imaginaries, BothParts}

-- "the lowest place where either part is so"
abbrev pub first_bad : List Float → List Float → ℕ
first_bad x y = min (first passes6 x) (first passes6 y)

-- the lower of two places, where there is one
abbrev pub earlier : Option ℕ → Option ℕ → Option ℕ
earlier (Some a) (Some b) = Some (min a b)
earlier (Some a) None = Some a
earlier None b = b

-- the number for a size, two input slices x and y, and output slices of c and d places
unfoldable pub number : ℕ → List Float → List Float → ℕ → ℕ → ℕ
number size x y c d =
    cond (among fft_sizes size)
    (cond (eqb (length x) size && eqb (length y) size)
    (cond (eqb c size && eqb d size) (cond (ltb (first_bad x y) size) bad_value accepted) bad_output)
    bad_input)
    bad_size

-- the number, and the index that goes with it: "the index is 0 but for 6 and 7"
unfoldable pub verdict : ℕ → List Float → List Float → ℕ → ℕ → Verdict
verdict size x y c d = verdict_of (number size x y c d) (first_bad x y)

-- re and im are the two parts of the transform of the numbers in x and y
abbrev pub Transformed : Bool → List Float → List Float → List Float → List Float → Type 0
Transformed inverse x y re im = let n = length x in BothParts n (spectrum (twiddle n inverse) inverse n (at x y)) re im

-- a call's verdict, and its two output slices as it returns
pub record Answer : Type 0 where
  pub judged : Verdict
  pub re : List Float
  pub im : List Float

abbrev pub outcome : Verdict → List Float → List Float → Answer
outcome v re im = record { judged = v; re = re; im = im }

-- "A refused call writes nothing"; an accepted one leaves the transform in the output slices re and im.
unfoldable pub answer : ℕ → Bool → List Float → List Float → List Float → List Float → Answer
answer size inverse x y re im =
    let n = number size x y (length re) (length im) in
    let f = spectrum (twiddle size inverse) inverse size (at x y) in
    outcome (verdict size x y (length re) (length im)) (cond (eqb n accepted) (reals size f) re) (cond (eqb n accepted) (imaginaries size f) im)
