-- The places of a frame unfolded and windowed, as a loop writes them straight from the values: `place_windowed` is one of them, `Placed` the invariant of such a loop, and
-- `Summed` that of one that adds a past to them. Assumes nothing.
use mathlib.Core.Path.{◌≡◌, sym, ap, ap₂, ◌∙◌}
use mathlib.Core.List.{List, zip_with}
use Prim.Native.Nat.{ℕ, ◌+◌, ◌-◌, ◌*◌, ◌≤◌, ◌<◌}
use native.Mathlib.Omega.{arith}
use lib.ListN.{length, get_or, take, drop, set, length-drop}
use lib.Seq.{get_or-take, get_or-drop, length-take-le}
use lib.Ieee.{Float, nan, binary32, add, mul, of_bits}
use Rattle.laws.proofs.Lists.{Filled, filled_more, filled_is}
use Rattle.laws.proofs.Sign.{add-nan, add-nan_right}
use Rattle.synthesis_steps.specs.Places.{unfolded, places}
use Rattle.synthesis_steps.proofs.Lists.{filled_part, get_or-zip_with, length-zip_with}
use Rattle.synthesis_steps.proofs.Places.{length-windowed, get_or-windowed}
use Rattle.synthesis_steps.proofs.Mirrors.{length-unfolded}

-- h is nf / 2, b the values, w the window
module _ (h : ℕ) (b : List Float) (w : List ℕ) where
  -- the first i of the list are the frame's places from `from` on, and the others what they were in l
  abbrev pub Placed : ℕ → List Float → ℕ → List Float → Type 0
  Placed from l i out = Filled (λ k. get_or (places h b w) (from + k) nan) l i out

  -- the same with a past added to them
  abbrev pub Summed : List Float → ℕ → List Float → ℕ → List Float → Type 0
  Summed past from l i out = Filled (λ k. add binary32 (get_or past k nan) (get_or (places h b w) (from + k) nan)) l i out

  module _ (e : length b ≡ 2 * h) (f : length w ≡ 4 * h) where
    long : length (unfolded h b) ≡ 4 * h
    long = length-unfolded h b e

    fits : length w ≡ length (unfolded h b)
    fits = f ∙ sym long

    pub length-places : length (places h b w) ≡ 4 * h
    length-places = length-windowed w (unfolded h b) fits ∙ long

    -- x is the place before the window, y the window's factor of it
    place_windowed : (k : ℕ) {x y : Float} → k < 4 * h → y ≡ of_bits binary32 (get_or w (4 * h - 1 - k) 0) → get_or (unfolded h b) k nan ≡ x → mul binary32 x y ≡ get_or (places h b w) k nan
    place_windowed k p j u =
        let n : length (unfolded h b) - 1 - k ≡ 4 * h - 1 - k = omega (arith, long) in
        ap (mul binary32 _) j
        ∙ sym
        (get_or-windowed w (unfolded h b) fits k (omega (arith, long))
        ∙ ap₂ (λ (x : Float) (i : ℕ). mul binary32 x (of_bits binary32 (get_or w i 0))) u n)

    module _ (from : ℕ) {l : List Float} {i : ℕ} {out : List Float} (p : Placed from l i out) (s : from + length l ≤ 4 * h) where
      pub one_more : {x y : Float} → i < length l → y ≡ of_bits binary32 (get_or w (4 * h - 1 - (from + i)) 0) → get_or (unfolded h b) (from + i) nan ≡ x → Placed from l (i + 1) (set out i (mul binary32 x y))
      one_more r j u = filled_more _ nan p r (place_windowed (from + i) (omega arith) j u)

      pub all_placed : i ≡ length l → out ≡ take (length l) (drop from (places h b w))
      all_placed r = filled_part nan from (places h b w) p r (omega (arith, length-places))

    module _ (past : List Float) (from : ℕ) {l : List Float} {i : ℕ} {out : List Float} (p : Summed past from l i out) (s : from + length l ≤ 4 * h) where
      pub one_sum : {x y : Float} → i < length l → y ≡ of_bits binary32 (get_or w (4 * h - 1 - (from + i)) 0) → get_or (unfolded h b) (from + i) nan ≡ x → Summed past from l (i + 1) (set out i (add binary32 (get_or past i nan) (mul binary32 x y)))
      one_sum r j u = filled_more _ nan p r (ap (add binary32 (get_or past i nan)) (place_windowed (from + i) (omega arith) j u))

      pub all_summed : length past ≡ length l → i ≡ length l → out ≡ zip_with (add binary32) past (take (length l) (drop from (places h b w)))
      all_summed n r =
          let t = take (length l) (drop from (places h b w)) in
          filled_is nan (zip_with (add binary32) past t) p r
          (length-zip_with (add binary32) past t (n ∙ sym (length-take-le (length l) (drop from (places h b w)) (omega (arith, length-places, length-drop from (places h b w))))) ∙ n)
          (λ k m. get_or-zip_with (add binary32) nan nan nan (add-nan binary32) (add-nan_right binary32) past t k ∙ ap (add binary32 (get_or past k nan)) (get_or-take (length l) (drop from (places h b w)) k nan m ∙ get_or-drop from (places h b w) k nan))
