-- Parts of a list of one value. Assumes nothing.
use mathlib.Core.Path.{◌≡◌, refl, sym, ap, ◌∙◌}
use mathlib.Core.List.{List, ◌∷◌}
use Prim.Native.Nat.{ℕ, zero, suc, ◌-◌, ◌≤◌}
use native.Mathlib.Nat.{not-suc-le-zero, le_of_suc-le-suc, sub-zero}
use native.Mathlib.Omega.{arith}
use lib.ListN.{take, drop, replicate}

module _ {A : Type 0} (a : A) where
  pub take-replicate : (n m : ℕ) → n ≤ m → take n (replicate m a) ≡ replicate n a
  take-replicate zero m h = refl
  take-replicate (suc n) zero h = absurd (not-suc-le-zero h)
  take-replicate (suc n) (suc m) h = ap (λ (l : List A). a ∷ l) (take-replicate n m (le_of_suc-le-suc h))

  pub drop-replicate : (n m : ℕ) → drop n (replicate m a) ≡ replicate (m - n) a
  drop-replicate zero m = ap (λ (k : ℕ). replicate k a) (sym (sub-zero m))
  drop-replicate (suc n) zero = let e : 0 ≡ 0 - suc n = omega arith in ap (λ (k : ℕ). replicate k a) e
  drop-replicate (suc n) (suc m) = let e : m - n ≡ suc m - suc n = omega arith in drop-replicate n m ∙ ap (λ (k : ℕ). replicate k a) e
