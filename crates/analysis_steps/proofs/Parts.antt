-- Two runs of a list, one behind the other. Assumes nothing.
use mathlib.Core.Path.{◌≡◌, sym, ap, ap₂, ◌∙◌}
use mathlib.Core.List.{List, ◌∷◌, ◌++◌}
use Prim.Native.Nat.{ℕ, zero, suc, ◌+◌, ◌<◌}
use native.Mathlib.Nat.{zero-add, suc-add}
use Rattle.laws.specs.Lists.{tab}
use Rattle.laws.proofs.Lists.{tab_ext}

tab-add : {X : Type 0} (a b : ℕ) (f : ℕ → X) → tab (a + b) f ≡ tab a f ++ tab b (λ k. f (a + k))
unfolding tab
tab-add {X} zero b f = ap (λ (n : ℕ). tab n f) (zero-add b) ∙ tab_ext b f (λ k. f (0 + k)) (λ k h. ap f (sym (zero-add k)))
tab-add {X} (suc a) b f =
    ap (λ (n : ℕ). tab n f) (suc-add a b)
    ∙ ap (λ (l : List X). f 0 ∷ l) (tab-add a b (λ k. f (suc k)) ∙ ap (λ (l : List X). tab a (λ k. f (suc k)) ++ l) (tab_ext b (λ k. f (suc (a + k))) (λ k. f (suc a + k)) (λ k h. ap f (sym (suc-add a k)))))

-- the runs p and q, of a and b places, are one tab
pub runs : {X : Type 0} (a b : ℕ) {n i j : ℕ} {f g : ℕ → X} (k : ℕ → X) {p q : List X} → p ≡ tab i f → i ≡ a → q ≡ tab j g → j ≡ b → a + b ≡ n
    → ((m : ℕ) → m < a → f m ≡ k m) → ((m : ℕ) → m < b → g m ≡ k (a + m)) → p ++ q ≡ tab n k
runs {X} a b {f = f} {g = g} k c d e h l s t =
    ap₂ (λ (u v : List X). u ++ v)
    (c ∙ ap (λ (m : ℕ). tab m f) d ∙ tab_ext a f k s)
    (e ∙ ap (λ (m : ℕ). tab m g) h ∙ tab_ext b g (λ m. k (a + m)) t)
    ∙ sym (tab-add a b k)
    ∙ ap (λ (m : ℕ). tab m k) l
