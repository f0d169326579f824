-- Sizes in steps of 2^-149, the smallest f32 above zero: of a value, and of a complex number's parts. Definitions only.
use Rattle.std.specs.Prelude.{ℕ, ◌*◌, ◌^◌, Bool, false, leb, Float}
use Rattle.std.specs.Float.{nan, inf, fin}
use Rattle.std.specs.Float.Ieee.{up, down}
use Rattle.complex.specs.declared.Complex.{Complex}
use Rattle.bounds.specs.Within.{Within}

-- x is finite, and at most q * 2^k steps. So 2^30 is `Size 179 1`, and 3 * 2^-4 is `Size 145 3`
pub record Size (k q : ℕ) (x : Float) : Type 0 where
  pub fact : Within (q * 2 ^ k) (2 ^ 149) x

-- `Size k 1`, as a test that antt computes
abbrev pub upto : ℕ → Float → Bool
upto k nan = false
upto k (inf s) = false
upto k (fin s m e) = leb (m * up e * 2 ^ 149) (1 * 2 ^ k * down e)

pub record Both (k q : ℕ) (x : Complex) : Type 0 where
  pub r : Size k q x.r
  pub i : Size k q x.i

-- a twiddle: no part is above 1 in magnitude
abbrev pub Small : Complex → Type 0
Small t = Both 149 1 t
