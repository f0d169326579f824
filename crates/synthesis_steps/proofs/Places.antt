-- The scaled and the windowed list, place by place, and the length of the padded one. Assumes nothing.
use mathlib.Core.Path.{◌≡◌, sym, ap, ◌∙◌}
use mathlib.Core.List.{List, map, reverse}
use Prim.Native.Nat.{ℕ, ◌-◌, ◌≤◌, ◌<◌}
use native.Mathlib.Omega.{arith}
use lib.ListN.{length, get_or, replicate, length-append, length-replicate, length-reverse, length-map, get_or-map}
use lib.Ieee.{Float, nan, binary32, mul, of_bits}
use Rattle.laws.proofs.Sign.{mul-nan, mul-nan_right}
use Rattle.laws.specs.Numbers.{zero32}
use Rattle.synthesis_steps.specs.Places.{padded, windowed}
use Rattle.gains.specs.Gains.{scaled}
use Rattle.synthesis_steps.proofs.Lists.{get_or-within, get_or-reverse, get_or-zip_with, length-zip_with}

pub get_or-scaled : (g : Float) (l : List Float) (k : ℕ) → get_or (scaled g l) k nan ≡ mul binary32 (get_or l k nan) g
unfolding scaled
get_or-scaled g l k = ap (λ (d : Float). get_or (map (λ x. mul binary32 x g) l) k d) (sym (mul-nan binary32 g)) ∙ get_or-map (λ x. mul binary32 x g) l k nan

pub length-scaled : (g : Float) (l : List Float) → length (scaled g l) ≡ length l
unfolding scaled
length-scaled g l = length-map l (λ x. mul binary32 x g)

-- the window, backwards
module _ (w : List ℕ) (t : List Float) (e : length w ≡ length t) where
  as_long : length t ≡ length (map (of_bits binary32) (reverse w))
  as_long = sym (length-map (reverse w) (of_bits binary32) ∙ length-reverse w ∙ e)

  pub length-windowed : length (windowed w t) ≡ length t
  unfolding windowed
  length-windowed = length-zip_with (mul binary32) t (map (of_bits binary32) (reverse w)) as_long

  pub get_or-windowed : (k : ℕ) → k < length t → get_or (windowed w t) k nan ≡ mul binary32 (get_or t k nan) (of_bits binary32 (get_or w (length t - 1 - k) 0))
  unfolding windowed
  get_or-windowed k p =
      get_or-zip_with (mul binary32) nan nan nan (mul-nan binary32) (mul-nan_right binary32) t (map (of_bits binary32) (reverse w)) k
      ∙ ap (mul binary32 (get_or t k nan))
      (get_or-within (map (of_bits binary32) (reverse w)) k nan (of_bits binary32 0) (omega (arith, as_long))
      ∙ get_or-map (of_bits binary32) (reverse w) k 0
      ∙ ap (of_bits binary32) (get_or-reverse w k 0 (omega arith) ∙ ap (λ (n : ℕ). get_or w (n - 1 - k) 0) e))

-- the lines, padded
pub length-padded : (n : ℕ) (x : List Float) → length x ≤ n → length (padded n x) ≡ n
unfolding padded
length-padded n x b = omega (arith, length-append x (replicate (n - length x) zero32), length-replicate (n - length x) zero32)
