-- Bands of one line each. Assumes nothing.
use mathlib.Core.Path.{◌≡◌, sym, ap, ◌∙◌}
use mathlib.Core.List.{List}
use Prim.Native.Nat.{ℕ, zero, suc, ◌+◌, ◌-◌, ◌≤◌, ◌<◌}
use native.Mathlib.Nat.{add-zero}
use native.Mathlib.Omega.{arith}
use lib.ListN.{get_or, take, drop}
use lib.Ieee.{Float}
use Rattle.laws.specs.Lists.{Rising}
use Rattle.measurement_steps.specs.Singles.{Apart}
use Rattle.measurement_steps.specs.Energy.{energy, band_of}
use Rattle.measurement_steps.specs.Peak.{peak, peak_of}
use Rattle.measurement_steps.proofs.Peaks.{lone_peak}

-- edges that rise
module _ (es : List ℕ) (b n : ℕ) (r : (k : ℕ) → k < n → get_or es (b + k) 0 < get_or es (b + k + 1) 0) where
  at : {i j : ℕ} → i ≡ j → get_or es i 0 ≡ get_or es j 0
  at e = ap (λ (k : ℕ). get_or es k 0) e

  wide : (k m : ℕ) → k + m ≤ n → get_or es (b + k) 0 + m ≤ get_or es (b + k + m) 0
  wide k zero h = omega (arith, at (add-zero (b + k)))
  wide k (suc m) h =
      let here : b + (k + m) ≡ b + k + m = omega arith in
      let next : b + (k + m) + 1 ≡ b + k + suc m = omega arith in
      omega (arith, wide k m (omega arith), r (k + m) (omega arith), at here, at next)

  -- and that end no more than n lines on, n bands later, are a line apart each
  pub spaced : get_or es (b + n) 0 ≤ get_or es b 0 + n → (k : ℕ) → k ≤ n → get_or es (b + k) 0 ≡ get_or es b 0 + k
  spaced h k l =
      let first : b + 0 + k ≡ b + k = omega arith in
      let last : b + k + (n - k) ≡ b + n = omega arith in
      omega (arith, h, wide 0 k (omega arith), wide k (n - k) (omega arith), at (add-zero b), at first, at last)

-- a band of one line, line i
module _ (es : List ℕ) (ls : List Float) (b i : ℕ) (from : i ≡ get_or es b 0) (to : get_or es (b + 1) 0 ≡ i + 1) where
  lone : take 1 (drop i ls) ≡ band_of es ls b
  unfolding band_of
  lone =
      let wide : 1 ≡ get_or es (b + 1) 0 - get_or es b 0 = omega arith in
      λ j. take (wide j) (drop (from j) ls)

  pub lone_energy : energy (take 1 (drop i ls)) ≡ energy (band_of es ls b)
  lone_energy = ap energy lone

  pub lone_place : i ≡ peak_of es ls b
  lone_place =
      let none : peak (band_of es ls b) ≡ 0 = ap peak (sym lone) ∙ lone_peak (drop i ls) in
      omega arith

module _ (edges : List ℕ) (b : ℕ) (h : Apart edges b) where
  next : (k : ℕ) → k < 4 → get_or edges (b + k + 1) 0 ≡ get_or edges b 0 + k + 1
  next k l =
      let e : b + k + 1 ≡ b + (k + 1) = omega arith in
      ap (λ (j : ℕ). get_or edges j 0) e ∙ h (k + 1) (omega arith) ∙ omega arith

  module _ (ls : List Float) (k : ℕ) (l : k < 4) where
    pub apart_energy : energy (take 1 (drop (get_or edges b 0 + k) ls)) ≡ energy (band_of edges ls (b + k))
    apart_energy = lone_energy edges ls (b + k) (get_or edges b 0 + k) (sym (h k (omega arith))) (next k l)

    pub apart_place : get_or edges b 0 + k ≡ peak_of edges ls (b + k)
    apart_place = lone_place edges ls (b + k) (get_or edges b 0 + k) (sym (h k (omega arith))) (next k l)

  -- they end inside the lines
  pub apart_inside : (nb n : ℕ) → b + 4 ≤ nb → Rising nb edges n → get_or edges b 0 + 4 ≤ n
  apart_inside nb n l r = omega (arith, r (b + 3) (omega arith), next 3 (omega arith))
