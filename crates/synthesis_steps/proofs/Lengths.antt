-- How long the samples and the memory of a frame are, and of which places they are. Assumes nothing.
use mathlib.Core.Path.{◌≡◌, sym, ap, ap₂, ◌∙◌}
use mathlib.Core.List.{List, ◌++◌, append-nil, zip_with}
use Prim.Native.Nat.{ℕ, ◌+◌, ◌-◌, ◌*◌, ◌≤◌}
use native.Mathlib.Omega.{arith}
use lib.ListN.{length, take, drop, length-append, length-drop}
use lib.Seq.{length-take-le, drop_at, take_all}
use lib.Ieee.{Float, binary32, add}
use Rattle.synthesis_steps.specs.Places.{output, remains}
use Rattle.synthesis_steps.proofs.Lists.{length-zip_with}

module _ (n z : ℕ) (t : List Float) (b : z ≤ n) (e : length t ≡ 2 * n) where
  pub length-remains : length (remains n z t) ≡ n - z
  unfolding remains
  length-remains = omega (arith, length-drop (n + z) t)

  module _ (m : List Float) (l : length m ≡ n - z) where
    sums : length (zip_with (add binary32) m (take (n - z) (drop z t))) ≡ n - z
    sums = length-zip_with (add binary32) m (take (n - z) (drop z t)) (l ∙ sym (length-take-le (n - z) (drop z t) (omega (arith, length-drop z t)))) ∙ l

    pub length-output : length (output n z m t) ≡ n
    unfolding output
    length-output = omega (arith, length-append (zip_with (add binary32) m (take (n - z) (drop z t))) (take z (drop n t)), sums, length-take-le z (drop n t) (omega (arith, length-drop n t)))

    -- the last z samples are places n to n + z - 1, whatever the memory
    pub last-output : drop (n - z) (output n z m t) ≡ take z (drop n t)
    unfolding output
    last-output = drop_at (zip_with (add binary32) m (take (n - z) (drop z t))) (take z (drop n t)) (n - z) sums

    -- the samples, once the places n to n + z - 1 follow the sums
    pub made-output : (k : ℕ) {p q : List Float} → p ≡ zip_with (add binary32) m (take (n - z) (drop z t)) → q ≡ take k (drop n t) → k ≡ z → p ++ q ≡ output n z m t
    unfolding output
    made-output k i j e = ap₂ (λ (x y : List Float). x ++ y) i (j ∙ ap (λ (k : ℕ). take k (drop n t)) e)

    pub made-remains : {r : List Float} → r ≡ take (length m) (drop (n + z) t) → r ≡ remains n z t
    unfolding remains
    made-remains p = p ∙ take_all (length m) (drop (n + z) t) (omega (arith, length-drop (n + z) t))

-- with z = 0 no sample comes without the memory
pub whole-output : (n : ℕ) (m t : List Float) → zip_with (add binary32) m (take (n - 0) (drop 0 t)) ≡ output n 0 m t
unfolding output
whole-output n m t = sym (append-nil (zip_with (add binary32) m (take (n - 0) (drop 0 t))))
