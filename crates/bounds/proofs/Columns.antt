-- What a butterfly makes of a column of known size. Assumes nothing.
use mathlib.Core.Path.{◌≡◌, refl}
use mathlib.Core.Bool.{Bool, true, false, cond}
use Prim.Native.Nat.{ℕ, ◌+◌, ◌*◌, ◌^◌, ◌≤◌, ◌<◌}
use native.Mathlib.Omega.{arith}
use lib.Dec.{T, leb, ltb, leb→le, lit<, lit≤}
use lib.Ieee.{Float, binary32, mul, of_bits}
use Rattle.complex.specs.declared.Complex.{Complex}
use Rattle.complex.specs.Complex as complex
use Rattle.columns.specs.Column as column
use Rattle.bounds.specs.Within.{none, also}
use Rattle.bounds.specs.Size.{Size, Both, Small}
use Rattle.bounds.specs.Growth.{Column, grow}
use Rattle.bounds.proofs.Lists.{each_at}
use Rattle.bounds.proofs.Bound.{room, plus, minus, less, product, more, raise}

half_size : Size 148 1 column.half
unfolding of_bits
half_size = record { fact = lit≤ tt }

module _ (k : ℕ) (K : k ≤ 253) where
  joined : {q r : ℕ} {x y : Complex} → Both k q x → Both k r y → T (ltb (q + r) (2 ^ 24)) → Both k (q + r) (complex.plus x y)
  joined h g t = record { r = plus (room K t) h.r g.r; i = plus (room K t) h.i g.i }

  parted : {q r : ℕ} {x y : Complex} → Both k q x → Both k r y → T (ltb (q + r) (2 ^ 24)) → Both k (q + r) (complex.minus x y)
  parted h g t = record { r = less (room K t) h.r g.r; i = less (room K t) h.i g.i }

  plus_quarter_lem : {q r : ℕ} {x y : Complex} → Both k q x → Both k r y → T (ltb (q + r) (2 ^ 24)) → Both k (q + r) (column.plus_quarter x y)
  plus_quarter_lem h g t = record { r = less (room K t) h.r g.i; i = plus (room K t) h.i g.r }

  minus_quarter_lem : {q r : ℕ} {x y : Complex} → Both k q x → Both k r y → T (ltb (q + r) (2 ^ 24)) → Both k (q + r) (column.minus_quarter x y)
  minus_quarter_lem h g t = record { r = plus (room K t) h.r g.i; i = less (room K t) h.i g.r }

  -- times a part of a twiddle
  part : {q : ℕ} {x t : Float} → Size k q x → Size 149 1 t → T (ltb (q * 1) (2 ^ 24)) → Size k (q * 1) (mul binary32 x t)
  part h g t = product (room K t) refl h g

  scaled : {q : ℕ} {x : Complex} {t : Float} → Both k q x → Size 149 1 t → T (ltb (q * 1) (2 ^ 24)) → Both k (q * 1) (complex.scale x t)
  scaled h g t = record { r = part h.r g t; i = part h.i g t }

  halved : {x : Complex} → Both k 4 x → Both k 2 (complex.scale x column.half)
  halved h = record { r = product (room K tt) (omega arith) (raise 2 1 h.r) half_size; i = product (room K tt) (omega arith) (raise 2 1 h.i) half_size }

  -- two numbers' product, of which the one is a twiddle
  pub by_twiddle : {i j : ℕ} {x y : Complex} → i + j ≡ k + 149 → Both i 1 x → Both j 1 y → Both k 2 (complex.times x y)
  by_twiddle e h g =
      record {
        r = less (room K tt) (product (room K tt) e h.r g.r) (product (room K tt) e h.i g.i);
        i = plus (room K tt) (product (room K tt) e h.r g.i) (product (room K tt) e h.i g.r);
      }

  -- q of 2 ^ k steps are one of 2 ^ (k + g)
  pub up : {q : ℕ} (g : ℕ) {x : Complex} → Both k q x → T (leb q (1 * 2 ^ g)) → Both (k + g) 1 x
  up {q} g h t = let l = leb→le q (1 * 2 ^ g) t in record { r = raise 1 g (more (1 * 2 ^ g) l h.r); i = raise 1 g (more (1 * 2 ^ g) l h.i) }

  either : {q : ℕ} {x y : Complex} (b : Bool) → Both k q x → Both k q y → Both k q (cond b x y)
  either true h g = h
  either false h g = g

  -- ---- the butterflies
  pub by2 : (v : ℕ → Complex) → Column k 2 v → (q : ℕ) → q < 2 → Both (k + grow 2) 1 (column.two v q)
  by2 v c q Q =
      let a = c.others 0 (lit< tt) in
      each_at {P = Both (k + grow 2) 1} _ q (also (up (grow 2) (joined c.first a tt) tt) (also (up (grow 2) (parted c.first a tt) tt) none)) Q

  pub by3 : (v : ℕ → Complex) → Column k 3 v → (y : Complex) → Small y → (q : ℕ) → q < 3 → Both (k + grow 3) 1 (column.three y v q)
  by3 v c y g q Q =
      let a = c.others 0 (lit< tt) in
      let b = c.others 1 (lit< tt) in
      let s3 = joined a b tt in
      let s0 = scaled (parted a b tt) g.i tt in
      let x = parted c.first (halved s3) tt in
      each_at {P = Both (k + grow 3) 1} _ q (also (up (grow 3) (joined c.first s3 tt) tt) (also (up (grow 3) (plus_quarter_lem x s0 tt) tt) (also (up (grow 3) (minus_quarter_lem x s0 tt) tt) none))) Q

  pub by4 : (v : ℕ → Complex) → Column k 4 v → (inverse : Bool) → (q : ℕ) → q < 4 → Both (k + grow 4) 1 (column.four inverse v q)
  by4 v c inverse q Q =
      let a = c.others 0 (lit< tt) in
      let b = c.others 1 (lit< tt) in
      let d = c.others 2 (lit< tt) in
      let s5 = parted c.first b tt in
      let s = joined c.first b tt in
      let s3 = joined a d tt in
      let s4 = parted a d tt in
      let l = plus_quarter_lem s5 s4 tt in
      let r = minus_quarter_lem s5 s4 tt in
      each_at {P = Both (k + grow 4) 1} _ q
      (also (up (grow 4) (joined s s3 tt) tt) (also (up (grow 4) (either inverse l r) tt) (also (up (grow 4) (parted s s3 tt) tt) (also (up (grow 4) (either inverse r l) tt) none)))) Q

  -- parts of radix 5, from scratch 7 to 10 of 4 each
  mix : {s0 s7 s8 : Complex} {a b : Float} → Both k 1 s0 → Both k 4 s7 → Both k 4 s8 → Size 149 1 a → Size 149 1 b → Both k 9 (column.mix s0 s7 s8 a b)
  mix h g f a b = joined (joined h (scaled g a tt) tt) (scaled f b tt) tt

  near : {s10 s9 ya yb : Complex} → Both k 4 s10 → Both k 4 s9 → Small ya → Small yb → Both k 8 (column.near s10 s9 ya yb)
  near h g a b =
      record { r = plus (room K tt) (part h.i a.i tt) (part g.i b.i tt); i = less (room K tt) (minus (part h.r a.i tt)) (part g.r b.i tt) }

  far : {s10 s9 ya yb : Complex} → Both k 4 s10 → Both k 4 s9 → Small ya → Small yb → Both k 8 (column.far s10 s9 ya yb)
  far h g a b =
      record { r = plus (room K tt) (minus (part h.i b.i tt)) (part g.i a.i tt); i = less (room K tt) (part h.r b.i tt) (part g.r a.i tt) }

  pub by5 : (v : ℕ → Complex) → Column k 5 v → (ya yb : Complex) → Small ya → Small yb → (q : ℕ) → q < 5 → Both (k + grow 5) 1 (column.five ya yb v q)
  by5 v c ya yb ga gb q Q =
      let h = c.first in
      let a = c.others 0 (lit< tt) in
      let b = c.others 1 (lit< tt) in
      let d = c.others 2 (lit< tt) in
      let e = c.others 3 (lit< tt) in
      let s7 = joined a e tt in
      let s10 = parted a e tt in
      let s8 = joined b d tt in
      let s9 = parted b d tt in
      let s5 = mix h s7 s8 ga.r gb.r in
      let s6 = near s10 s9 ga gb in
      let s11 = mix h s7 s8 gb.r ga.r in
      let s12 = far s10 s9 ga gb in
      each_at {P = Both (k + grow 5) 1} _ q
      (also (up (grow 5) (joined h (joined s7 s8 tt) tt) tt) (also (up (grow 5) (parted s5 s6 tt) tt) (also (up (grow 5) (joined s11 s12 tt) tt) (also (up (grow 5) (parted s11 s12 tt) tt) (also (up (grow 5) (joined s5 s6 tt) tt) none))))) Q
