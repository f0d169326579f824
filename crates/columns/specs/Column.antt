-- What the butterflies (kissfft.rs) make of one column, which is a function from its part q to a complex number. Definitions only.
use Rattle.std.specs.Prelude.{Bool, cond, List, [], ◌∷◌, ℕ, get_or, Float}
use Rattle.std.specs.Float.{binary32, nan}
use Rattle.std.specs.Float.Ieee.{of_bits, add, sub, mul, neg}
use Rattle.complex.specs.declared.Complex.{Complex}
use Rattle.complex.specs.Complex.{parts, plus, minus, scale}

-- x + i y, and x - i y: x plus or minus y turned by a quarter
abbrev pub plus_quarter : Complex → Complex → Complex
plus_quarter x y = parts (sub binary32 x.r y.i) (add binary32 x.i y.r)

abbrev pub minus_quarter : Complex → Complex → Complex
minus_quarter x y = parts (add binary32 x.r y.i) (sub binary32 x.i y.r)

-- the column that holds these numbers
abbrev pub col : List Complex → ℕ → Complex
col l q = get_or l q (parts nan nan)

-- `kf_bfly2` on a twiddled column
abbrev pub two : (ℕ → Complex) → ℕ → Complex
two c = col (plus (c 0) (c 1) ∷ minus (c 0) (c 1) ∷ [])

-- 0.5
abbrev pub half : Float
half = of_bits binary32 0x3f000000

-- `kf_bfly3`, where y is the twiddle of a third of a turn
abbrev pub three : Complex → (ℕ → Complex) → ℕ → Complex
three y c =
    let s3 = plus (c 1) (c 2) in
    let s0 = scale (minus (c 1) (c 2)) y.i in
    let x = minus (c 0) (scale s3 half) in
    col (plus (c 0) s3 ∷ plus_quarter x s0 ∷ minus_quarter x s0 ∷ [])

-- `kf_bfly4`, whose quarter turn is the other way in the inverse transform
abbrev pub four : Bool → (ℕ → Complex) → ℕ → Complex
four inverse c =
    let s5 = minus (c 0) (c 2) in
    let b = plus (c 0) (c 2) in
    let s3 = plus (c 1) (c 3) in
    let s4 = minus (c 1) (c 3) in
    col (plus b s3 ∷ cond inverse (plus_quarter s5 s4) (minus_quarter s5 s4) ∷ minus b s3 ∷ cond inverse (minus_quarter s5 s4) (plus_quarter s5 s4) ∷ [])

-- of `kf_bfly5`: s0 + s7 x + s8 w, from the left (its scratch 5 and 11)
abbrev pub mix : Complex → Complex → Complex → Float → Float → Complex
mix s0 s7 s8 x w = plus (plus s0 (scale s7 x)) (scale s8 w)

-- its scratch 6
abbrev pub near : Complex → Complex → Complex → Complex → Complex
near s10 s9 ya yb =
    parts (add binary32 (mul binary32 s10.i ya.i) (mul binary32 s9.i yb.i))
    (sub binary32 (neg (mul binary32 s10.r ya.i)) (mul binary32 s9.r yb.i))

-- its scratch 12
abbrev pub far : Complex → Complex → Complex → Complex → Complex
far s10 s9 ya yb =
    parts (add binary32 (neg (mul binary32 s10.i yb.i)) (mul binary32 s9.i ya.i))
    (sub binary32 (mul binary32 s10.r yb.i) (mul binary32 s9.r ya.i))

-- `kf_bfly5`, where ya and yb are the twiddles of a fifth and of two fifths of a turn. Output 0 adds the already summed pair.
abbrev pub five : Complex → Complex → (ℕ → Complex) → ℕ → Complex
five ya yb c =
    let s7 = plus (c 1) (c 4) in
    let s10 = minus (c 1) (c 4) in
    let s8 = plus (c 2) (c 3) in
    let s9 = minus (c 2) (c 3) in
    let s5 = mix (c 0) s7 s8 ya.r yb.r in
    let s6 = near s10 s9 ya yb in
    let s11 = mix (c 0) s7 s8 yb.r ya.r in
    let s12 = far s10 s9 ya yb in
    col (plus (c 0) (plus s7 s8) ∷ minus s5 s6 ∷ plus s11 s12 ∷ minus s11 s12 ∷ plus s5 s6 ∷ [])
