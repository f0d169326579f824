-- `within`, as a loop fills it: one place at a time, or a part of m places at a time. Assumes nothing.
use mathlib.Core.Path.{◌≡◌, sym, ap, ◌∙◌, fun_ext}
use Prim.Native.Nat.{ℕ, ◌+◌, ◌*◌, ◌-◌, ◌<◌, ◌≤◌}
use native.Mathlib.Nat.{suc-mul, mul-le-mul_right}
use native.Mathlib.Numerals.{add-one}
use native.Mathlib.Decide.{ℕ_discrete, dec_lt}
use native.Mathlib.Omega.{arith}
use borrow.Author.Tests.{lt-ltb, le-ltb}
use Rattle.complex.specs.declared.Complex.{Complex}
use Rattle.complex.specs.Complex.{upd}
use Rattle.complex.proofs.Places.{upd_same, upd_other}
use Rattle.kf_work.specs.Work.{within}

module _ (n : ℕ) (f g : ℕ → Complex) (k : ℕ) where
  pub within-lt : k < n → within n f g k ≡ f k
  unfolding within
  within-lt h = rw (lt-ltb k n h)

  pub within_ge : n ≤ k → within n f g k ≡ g k
  unfolding within
  within_ge h = rw (le-ltb k n h)

pub within_none : (f g : ℕ → Complex) → g ≡ within 0 f g
within_none f g = fun_ext (λ k. sym (within_ge 0 f g k (omega arith)))

pub within_more : (q : ℕ) (f g : ℕ → Complex) → upd (within q f g) q (f q) ≡ within (q + 1) f g
within_more q f g = fun_ext (λ k. elim (ℕ_discrete k q) [ yes e ↦ here k e | no n ↦ elim (dec_lt k q) [ yes l ↦ low k n l | no h ↦ high k n h ] ])
  where
    here : (k : ℕ) → k ≡ q → upd (within q f g) q (f q) k ≡ within (q + 1) f g k
    here k e = upd_same _ _ _ _ e ∙ ap f (sym e) ∙ sym (within-lt (q + 1) f g k (omega arith))

    low : (k : ℕ) → (k ≡ q → ⊥) → k < q → upd (within q f g) q (f q) k ≡ within (q + 1) f g k
    low k n l = upd_other _ _ _ _ n ∙ within-lt q f g k l ∙ sym (within-lt (q + 1) f g k (omega arith))

    high : (k : ℕ) → (k ≡ q → ⊥) → (k < q → ⊥) → upd (within q f g) q (f q) k ≡ within (q + 1) f g k
    high k n h = upd_other _ _ _ _ n ∙ within_ge q f g k (omega arith) ∙ sym (within_ge (q + 1) f g k (omega arith))

-- the part from a = q m on is lent, and comes back with its first m places at those of f
pub within-part : (m q : ℕ) (f g₀ g g' h' : ℕ → Complex) → g ≡ within (q * m) f g₀
    → h' ≡ within m (λ j. f (q * m + j)) (λ j. g (q * m + j))
    → ((k : ℕ) → k < q * m → g' k ≡ g k)
    → ((j : ℕ) → g' (q * m + j) ≡ h' j)
    → g' ≡ within ((q + 1) * m) f g₀
within-part m q f g₀ g g' h' before call low tail = fun_ext (λ k. elim (dec_lt k (q * m)) [ yes l ↦ under k l | no h ↦ over k h ])
  where
    next : (q + 1) * m ≡ q * m + m
    next = ap (λ (x : ℕ). x * m) (add-one q) ∙ suc-mul q m

    under : (k : ℕ) → k < q * m → g' k ≡ within ((q + 1) * m) f g₀ k
    under k l =
        low k l ∙ ap (λ (c : ℕ → Complex). c k) before ∙ within-lt (q * m) f g₀ k l ∙ sym (within-lt ((q + 1) * m) f g₀ k (omega arith))

    over : (k : ℕ) → (k < q * m → ⊥) → g' k ≡ within ((q + 1) * m) f g₀ k
    over k h =
        let j : ℕ = k - q * m in
        let is : k ≡ q * m + j = omega arith in
        let stored : g' k ≡ within m (λ j. f (q * m + j)) (λ j. g (q * m + j)) j =
        ap g' is ∙ tail j ∙ ap (λ (c : ℕ → Complex). c j) call in
        elim (dec_lt j m) [
          | yes l ↦ stored ∙ within-lt m _ _ j l ∙ ap f (sym is) ∙ sym (within-lt ((q + 1) * m) f g₀ k (omega arith))
          | no n ↦ stored ∙ within_ge m _ _ j (omega arith) ∙ ap g (sym is) ∙ ap (λ (c : ℕ → Complex). c k) before
              ∙ within_ge (q * m) f g₀ k (omega arith)
              ∙ sym (within_ge ((q + 1) * m) f g₀ k (omega arith))
        ]

pub filled : (q : ℕ) (f g₀ g g' : ℕ → Complex) (v : Complex) → g ≡ within q f g₀ → v ≡ f q → g' ≡ upd g q v → g' ≡ within (q + 1) f g₀
filled q f g₀ g g' v before is stored = stored ∙ rw (before, is) (within_more q f g₀)

-- place o + q s of the input, with o below the stride s and q below p
pub stride_in : (s p o q n : ℕ) → o < s → q < p → p * s ≤ n → o + q * s < n
stride_in s p o q n ho hq hn = omega (arith, mul-le-mul_right s hq, suc-mul q s)

pub within-zero : (m : ℕ) (f g : ℕ → Complex) → g ≡ within (0 * m) f g
within-zero m f g = fun_ext (λ k. sym (within_ge (0 * m) f g k (omega arith)))
