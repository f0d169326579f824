-- Complex numbers of two f32 parts (complex.rs): every operation rounded once, in the order written here. Definitions only.
use Rattle.std.specs.Prelude.{cond, List, ℕ, ◌<◌, eqb, length, get_or, Float}
use Rattle.std.specs.Float.{nan, binary32}
use Rattle.std.specs.Float.Ieee.{add, sub, mul}
use Rattle.complex.specs.declared.Complex.{Complex}

-- `Complex::new`
abbrev pub parts : Float → Float → Complex
parts r i = record { r = r; i = i }

-- `Add::add`
abbrev pub plus : Complex → Complex → Complex
plus a b = record { r = add binary32 a.r b.r; i = add binary32 a.i b.i }

-- `Sub::sub`
abbrev pub minus : Complex → Complex → Complex
minus a b = record { r = sub binary32 a.r b.r; i = sub binary32 a.i b.i }

-- `Mul::mul`: r = a.r b.r - a.i b.i, i = a.r b.i + a.i b.r
abbrev pub times : Complex → Complex → Complex
times a b =
    record {
      r = sub binary32 (mul binary32 a.r b.r) (mul binary32 a.i b.i);
      i = add binary32 (mul binary32 a.r b.i) (mul binary32 a.i b.r);
    }

-- `MulAssign::mul_assign`: both parts by a real
abbrev pub scale : Complex → Float → Complex
scale a s = record { r = mul binary32 a.r s; i = mul binary32 a.i s }

-- place k of a list of real parts and a list of imaginary parts: total, a NaN past the end
abbrev pub at : List Float → List Float → ℕ → Complex
at re im k = record { r = get_or re k nan; i = get_or im k nan }

-- place k is in both slices
abbrev pub InBoth : ℕ → List Float → List Float → Type 0
InBoth k re im = (k < length re) × (k < length im)

-- f with c at place k
unfoldable pub upd : (ℕ → Complex) → ℕ → Complex → ℕ → Complex
upd f k c j = cond (eqb j k) c (f j)
