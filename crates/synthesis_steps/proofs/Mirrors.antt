-- The unfolded frame, place by place; and that its halves mirror before the window, bit for bit: `halves`; and that the gain may
-- come before the unfolding: `unfolded-scaled`. Assumes nothing.
use mathlib.Core.Path.{◌≡◌, refl, sym, ap, ◌∙◌}
use mathlib.Core.Logic.{⊎_elim}
use mathlib.Core.List.{List, map, reverse}
use Prim.Native.Nat.{ℕ, ◌+◌, ◌-◌, ◌*◌, ◌≤◌, ◌<◌}
use native.Mathlib.Omega.{arith}
use lib.ListN.{length, get_or, take, drop, length-append, length-drop, length-reverse, length-map, get_or-append}
use lib.Seq.{get_or-drop, get_or-take, length-take-le, ext_get_or}
use lib.Ieee.{Float, nan, binary32, neg, mul}
use Rattle.laws.proofs.Sign.{neg-neg, mul-neg, get_or-negs}
use Rattle.synthesis_steps.specs.Places.{mirrored, unfolded, Mirrors}
use Rattle.gains.specs.Gains.{scaled}
use Rattle.synthesis_steps.specs.Halves.{Halves}
use Rattle.synthesis_steps.proofs.Lists.{lt-or_ge, get_or-second, get_or-reverse}
use Rattle.synthesis_steps.proofs.Places.{get_or-scaled, length-scaled}

-- h is nf / 2, b the values
module _ (h : ℕ) (b : List Float) (e : length b ≡ 2 * h) where
  length-mirrored : length (mirrored b) ≡ 4 * h
  unfolding mirrored
  length-mirrored = omega (arith, length-append b (map neg (reverse b)), length-map (reverse b) neg, length-reverse b)

  mirrored-low : (k : ℕ) → k < 2 * h → get_or (mirrored b) k nan ≡ get_or b k nan
  unfolding mirrored
  mirrored-low k p = get_or-append b (map neg (reverse b)) nan k (omega arith)

  mirrored-high : (k : ℕ) → 2 * h ≤ k → k < 4 * h → get_or (mirrored b) k nan ≡ neg (get_or b (4 * h - 1 - k) nan)
  unfolding mirrored
  mirrored-high k p q =
      let f : length b - 1 - (k - length b) ≡ 4 * h - 1 - k = omega arith in
      get_or-second b (map neg (reverse b)) k nan (omega arith)
      ∙ get_or-negs (reverse b) (k - length b)
      ∙ ap neg (get_or-reverse b (k - length b) nan (omega arith) ∙ ap (λ (j : ℕ). get_or b j nan) f)

  length-left : length (drop h (mirrored b)) ≡ 3 * h
  length-left = omega (arith, length-drop h (mirrored b), length-mirrored)

  pub length-unfolded : length (unfolded h b) ≡ 4 * h
  unfolding unfolded
  length-unfolded =
      omega (arith, length-append (drop h (mirrored b)) (map neg (take h (mirrored b))), length-left, length-map (take h (mirrored b)) neg, length-take-le h (mirrored b) (omega (arith, length-mirrored)))

  -- the first three quarters are those h places further on in the mirrored list
  moved : (k : ℕ) → k < 3 * h → get_or (unfolded h b) k nan ≡ get_or (mirrored b) (h + k) nan
  unfolding unfolded
  moved k p =
      get_or-append (drop h (mirrored b)) (map neg (take h (mirrored b))) nan k (omega (arith, length-left)) ∙ get_or-drop h (mirrored b) k nan

  -- a place of the first quarter, of the middle half, of the last quarter
  pub place_first : (k j : ℕ) → k < h → j ≡ h + k → get_or (unfolded h b) k nan ≡ get_or b j nan
  place_first k j p e = moved k (omega arith) ∙ ap (λ (i : ℕ). get_or (mirrored b) i nan) (sym e) ∙ mirrored-low j (omega arith)

  pub place_middle : (k j : ℕ) → h ≤ k → k < 3 * h → j ≡ 3 * h - 1 - k → get_or (unfolded h b) k nan ≡ neg (get_or b j nan)
  place_middle k j p q e =
      let f : 4 * h - 1 - (h + k) ≡ j = omega arith in
      moved k q ∙ mirrored-high (h + k) (omega arith) (omega arith) ∙ ap (λ (i : ℕ). neg (get_or b i nan)) f

  pub place_last : (k j : ℕ) → k < 4 * h → k ≡ 3 * h + j → get_or (unfolded h b) k nan ≡ neg (get_or b j nan)
  unfolding unfolded
  place_last k j p e =
      let f : k - length (drop h (mirrored b)) ≡ j = omega (arith, length-left) in
      get_or-second (drop h (mirrored b)) (map neg (take h (mirrored b))) k nan (omega (arith, length-left))
      ∙ get_or-negs (take h (mirrored b)) (k - length (drop h (mirrored b)))
      ∙ ap (λ (i : ℕ). neg (get_or (take h (mirrored b)) i nan)) f
      ∙ ap neg (get_or-take h (mirrored b) j nan (omega arith) ∙ mirrored-low j (omega arith))

  -- before the gain: the first half is antisymmetric, the second symmetric
  front : (k : ℕ) → k < 2 * h → get_or (unfolded h b) k nan ≡ neg (get_or (unfolded h b) (2 * h - 1 - k) nan)
  front k p = ⊎_elim
      (λ q. place_first k (h + k) q refl ∙ sym (ap neg (place_middle (2 * h - 1 - k) (h + k) (omega arith) (omega arith) (omega arith)) ∙ neg-neg (get_or b (h + k) nan)))
      (λ q. place_middle k (3 * h - 1 - k) q (omega arith) refl ∙ sym (ap neg (place_first (2 * h - 1 - k) (3 * h - 1 - k) (omega arith) (omega arith))))
      (lt-or_ge k h)

  back : (k : ℕ) → k < 2 * h → get_or (unfolded h b) (2 * h + k) nan ≡ get_or (unfolded h b) (4 * h - 1 - k) nan
  back k p = ⊎_elim
      (λ q. place_middle (2 * h + k) (h - 1 - k) (omega arith) (omega arith) (omega arith) ∙ sym (place_last (4 * h - 1 - k) (h - 1 - k) (omega arith) (omega arith)))
      (λ q. place_last (2 * h + k) (k - h) (omega arith) (omega arith) ∙ sym (place_middle (4 * h - 1 - k) (k - h) (omega arith) (omega arith) (omega arith)))
      (lt-or_ge k h)

  -- document 01, module 6: before the window the halves mirror, bit for bit, whatever the values and the gain
  unfold_mirrors : (g : Float) → Mirrors h (scaled g (unfolded h b))
  unfold_mirrors g = record {
    antisymmetric = λ k p.
        at k ∙ ap (λ (x : Float). mul binary32 x g) (front k p) ∙ mul-neg binary32 (get_or (unfolded h b) (2 * h - 1 - k) nan) g ∙ ap neg (sym (at (2 * h - 1 - k)));
    symmetric = λ k p. at (2 * h + k) ∙ ap (λ (x : Float). mul binary32 x g) (back k p) ∙ sym (at (4 * h - 1 - k));
  }
    where
      at : (k : ℕ) → get_or (scaled g (unfolded h b)) k nan ≡ mul binary32 (get_or (unfolded h b) k nan) g
      at k = get_or-scaled g (unfolded h b) k

-- the gain applied to the values is the gain applied to the places: rounding is symmetric in the sign
pub unfolded-scaled : (h : ℕ) (g : Float) (b : List Float) → length b ≡ 2 * h → unfolded h (scaled g b) ≡ scaled g (unfolded h b)
unfolded-scaled h g b e =
    ext_get_or nan (unfolded h (scaled g b)) (scaled g (unfolded h b)) (length-unfolded h (scaled g b) d ∙ sym (length-scaled g (unfolded h b) ∙ length-unfolded h b e))
    (λ k p. ⊎_elim
    (λ q. same k (place_first h (scaled g b) d k (h + k) q refl ∙ get_or-scaled g b (h + k)) (place_first h b e k (h + k) q refl))
    (λ q. ⊎_elim
    (λ r. same k (place_middle h (scaled g b) d k (3 * h - 1 - k) q r refl ∙ turned (3 * h - 1 - k)) (place_middle h b e k (3 * h - 1 - k) q r refl))
    (λ r. same k (place_last h (scaled g b) d k (k - 3 * h) (omega (arith, length-unfolded h (scaled g b) d)) (omega arith) ∙ turned (k - 3 * h)) (place_last h b e k (k - 3 * h) (omega (arith, length-unfolded h (scaled g b) d)) (omega arith)))
    (lt-or_ge k (3 * h)))
    (lt-or_ge k h))
  where
    d : length (scaled g b) ≡ 2 * h
    d = length-scaled g b ∙ e

    same : (k : ℕ) {x : Float} → get_or (unfolded h (scaled g b)) k nan ≡ mul binary32 x g → get_or (unfolded h b) k nan ≡ x → get_or (unfolded h (scaled g b)) k nan ≡ get_or (scaled g (unfolded h b)) k nan
    same k s t = s ∙ sym (get_or-scaled g (unfolded h b) k ∙ ap (λ (y : Float). mul binary32 y g) t)

    turned : (j : ℕ) → neg (get_or (scaled g b) j nan) ≡ mul binary32 (neg (get_or b j nan)) g
    turned j = ap neg (get_or-scaled g b j) ∙ sym (mul-neg binary32 (get_or b j nan) g)

pub halves : Halves
halves = record { unfold_mirrors = unfold_mirrors }
