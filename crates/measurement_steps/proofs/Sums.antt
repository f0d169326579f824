-- Sums in the order of their terms: `Summed` is the invariant of a loop that sums. Assumes nothing.
use mathlib.Core.Path.{◌≡◌, refl, sym, ap, ◌∙◌}
use mathlib.Core.List.{List, [], ◌∷◌, ◌++◌}
use Prim.Native.Nat.{ℕ, ◌+◌, ◌≤◌, ◌<◌}
use native.Mathlib.Nat.{add-zero}
use native.Mathlib.Omega.{arith}
use Rattle.std.specs.Prelude.{fold}
use lib.IntN.{pos}
use lib.ListN.{length, get_or, take, drop, length-drop}
use lib.Seq.{take-add, take-length, get_or-drop}
use lib.Ieee.{Float, nan, binary32, add, of_int}
use Rattle.laws.specs.Lists.{tab}
use Rattle.laws.specs.Numbers.{zero32}
use Rattle.laws.proofs.Lists.{tab_ext, take-tab}
use Rattle.measurement_steps.specs.Energy.{sum_of, share, energy}
use Rattle.measurement_steps.specs.Peak.{share_by}

-- n terms from place i on
pub stretch : (n i : ℕ) (xs : List Float) → i + n ≤ length xs → take n (drop i xs) ≡ tab n (λ k. get_or xs (i + k) nan)
stretch n i xs h = take-tab n (drop i xs) nan (omega (arith, length-drop i xs)) ∙ tab_ext n _ _ (λ k b. get_or-drop i xs k nan)

-- a sum goes on where another ends
pub sum_on : (f : Float → Float) (acc : Float) (xs ys : List Float) → sum_of f acc (xs ++ ys) ≡ sum_of f (sum_of f acc xs) ys
sum_on f acc [] ys = refl
sum_on f acc (x ∷ xs) ys = sum_on f (add binary32 acc (f x)) xs ys

-- the library's word for it, where the terms stand as they are
pub fold_sums : (acc : Float) (xs : List Float) → fold (add binary32) acc xs ≡ sum_of (λ x. x) acc xs
fold_sums acc [] = refl
fold_sums acc (x ∷ xs) = fold_sums (add binary32 acc x) xs

-- s is the sum of the first i terms
abbrev pub Summed : (Float → Float) → Float → List Float → ℕ → Float → Type 0
Summed f acc xs i s = s ≡ sum_of f acc (take i xs)

-- n terms more
pub summed_on : (f : Float → Float) (acc : Float) (xs : List Float) (i n j : ℕ) (s t : Float) → Summed f acc xs i s → t ≡ sum_of f s (take n (drop i xs)) → i + n ≡ j → Summed f acc xs j t
summed_on f acc xs i n j s t h e l =
    e
    ∙ ap (λ (x : Float). sum_of f x (take n (drop i xs))) h
    ∙ sym (sum_on f acc (take i xs) (take n (drop i xs)))
    ∙ ap (sum_of f acc) (sym (take-add i n xs) ∙ ap (λ (k : ℕ). take k xs) l)

pub summed_more : (f : Float → Float) (acc : Float) (xs : List Float) (i : ℕ) (s : Float) → Summed f acc xs i s → i < length xs → Summed f acc xs (i + 1) (add binary32 s (f (get_or xs i nan)))
unfolding tab
summed_more f acc xs i s h b = summed_on f acc xs i 1 _ s _ h (simp (stretch 1 i xs (omega arith), add-zero)) refl

pub summed_all : (f : Float → Float) (acc : Float) (xs : List Float) (i : ℕ) (s : Float) → Summed f acc xs i s → i ≡ length xs → s ≡ sum_of f acc xs
summed_all f acc xs i s h e = h ∙ ap (λ (k : ℕ). sum_of f acc (take k xs)) e ∙ ap (sum_of f acc) (take-length xs)

-- the sum of all shares is the energy
pub is_energy : (ls : List Float) (n : ℕ) (w s : Float) → s ≡ sum_of (share_by w) zero32 ls → length ls ≡ n → w ≡ of_int binary32 (pos n) → s ≡ energy ls
unfolding energy share
is_energy ls n w s h e v = h ∙ ap (λ (x : Float). sum_of (share_by x) zero32 ls) (v ∙ ap (λ (k : ℕ). of_int binary32 (pos k)) (sym e))
