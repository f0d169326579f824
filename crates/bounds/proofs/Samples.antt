-- The places, memory and samples of any lines that pass 6. Assumes nothing.
use mathlib.Core.Path.{◌≡◌, refl}
use mathlib.Core.List.{List, ◌++◌, map, reverse}
use Prim.Native.Nat.{ℕ, ◌+◌, ◌-◌, ◌*◌, ◌^◌}
use native.Mathlib.Omega.{arith}
use lib.Dec.{T, lit≤}
use lib.ListN.{length}
use lib.Ieee.{Float, nan, inf, fin, up, down, binary32, add, mul, neg, of_bits}
use Rattle.laws.specs.Numbers.{zero32}
use Rattle.laws.specs.Passes.{passes6}
use Rattle.config.specs.Config.{valid, nf, z, ne, half}
use Rattle.config.proofs.Sound.{sound}
use Rattle.laws.specs.Exact.{finite}
use Rattle.synthesis_steps.specs.Places.{padded, mirrored, unfolded, windowed, output, remains}
use Rattle.gains.specs.Gains.{gain, scaled}
use Rattle.synthesis_steps.proofs.Places.{length-padded}
use Rattle.synthesis_frame.specs.Frame.{places}
use Rattle.synthesis_samples.specs.Samples.{places_of, samples_of, memory_of}
use Rattle.bounds.specs.Within.{Within, Each}
use Rattle.bounds.specs.Size.{Size}
use Rattle.bounds.proofs.Bound.{room, plus, minus, product, more, sized, one_over, zero_size}
use Rattle.bounds.proofs.Lists.{each_append, each_take, each-drop, each-replicate, each-reverse, each_map, each_zip, each_weaken}
use Rattle.bounds.proofs.Tables.{plan_grows, gain-size, entries_size}
use Rattle.bounds.proofs.Dct.{dct-bound}

-- what passes 6 is at most 2 ^ 60
pub six-within : (x : Float) → T (passes6 x) → Within (2 ^ 60) 1 x
unfolding passes6
six-within nan t = t
six-within (inf s) t = t
six-within (fin s m e) t = one_over (m * up e) (2 ^ 60 * down e) t

pub size_finite : {k q : ℕ} (x : Float) → Size k q x → T (finite x)
unfolding finite
size_finite nan h = h.fact
size_finite (inf s) h = h.fact
size_finite (fin s m e) h = tt

unfolded-each : {k : ℕ} (h : ℕ) {b : List Float} → Each (Size k 1) b → Each (Size k 1) (unfolded h b)
unfolding unfolded mirrored
unfolded-each {k} h {b} a =
    let m : Each (Size k 1) (b ++ map neg (reverse b)) = each_append a (each_map neg (λ x. minus) (each-reverse a)) in
    each_append (each-drop h m) (each_map neg (λ x. minus) (each_take h m))

module _ (c : ℕ) (v : T (valid c)) where
  -- from 2 ^ 60: 2 ^ (63 + growth) after the DCT, 2 ^ 73 after the gain, 2 ^ 74 after the window
  places-bound : (x : List Float) → length x ≡ ne c → Each (λ y. T (passes6 y)) x → Each (Size 223 1) (places_of c x)
  unfolding places_of places padded scaled windowed
  places-bound x e a =
      let s = sound c v in
      let g = plan_grows c v in
      let h = half c in
      let b : Each (Size 209 1) (padded (2 * h) x) = each_append (each_weaken (λ y t. sized 60 y (six-within y t)) a) (each-replicate (2 * h - length x) zero32 (zero_size 209 1)) in
      let d = dct-bound h s.fft_size 209 (omega (arith, g)) (padded (2 * h) x) (length-padded (2 * h) x (omega (arith, e, s.ne_le, s.even))) b in
      each_zip (mul binary32) (λ x y p q. product (room (lit≤ tt) tt) refl p q)
      (each_map {Q = Size 222 1} (λ (y : Float). mul binary32 y (gain (nf c))) (λ y u. product (room (lit≤ tt) tt) (omega (arith, g)) u (gain-size c v)) (unfolded-each h d))
      (each_map {Q = Size 150 1} (of_bits binary32) (λ b u. u) (each-reverse (entries_size c v)))

  pub memory-bound : (x : List Float) → length x ≡ ne c → Each (λ y. T (passes6 y)) x → Each (Size 223 1) (memory_of c x)
  unfolding memory_of remains
  memory-bound x e a = each-drop (nf c + z c) (places-bound x e a)

  -- 2 ^ 75, after any past that a memory may be
  pub samples-bound : (past x : List Float) → Each (Size 223 1) past → length x ≡ ne c → Each (λ y. T (passes6 y)) x → Each (Size 223 2) (samples_of c past x)
  unfolding samples_of output
  samples-bound past x p e a =
      let t = places-bound x e a in
      each_append (each_zip (add binary32) (λ x y p q. plus (room (lit≤ tt) tt) p q) p (each_take (nf c - z c) (each-drop (z c) t)))
      (each_weaken (λ x h. more 2 (lit≤ tt) h) (each_take (z c) (each-drop (nf c) t)))
