-- The scan's place is the first with the greatest, and no other place is. Assumes nothing.
use mathlib.Core.Path.{◌≡◌, refl, sym, ◌∙◌}
use mathlib.Core.Logic.{◌⊎◌, inl, inr, ⊎_elim}
use mathlib.Core.Bool.{true, false, true≢false}
use mathlib.Core.List.{List}
use Prim.Native.Nat.{ℕ, zero, suc, ◌+◌, ◌≤◌, ◌<◌}
use native.Mathlib.Nat.{not-suc-le-zero, le_of_suc-le-suc, eq-or-lt_of_le}
use native.Mathlib.Numerals.{add-one}
use native.Mathlib.Omega.{arith}
use lib.Dec.{T, ltb}
use lib.ListN.{length, get_or}
use lib.Ieee.{Float, nan, lt}
use lib.Ieee.Bits.{is_true}
use borrow.Author.Tests.{ltb-true, ltb-false}
use Rattle.laws.specs.Passes.{ranked}
use Rattle.laws.specs.Greatest.{First, better, best}
use Rattle.laws.proofs.Bools.{outcomes, holds}
use Rattle.laws.proofs.Order.{above, asym, same_not}

below-or-at : (k n : ℕ) → k < suc n → (k < n) ⊎ (k ≡ n)
below-or-at k n h = elim (eq-or-lt_of_le (le_of_suc-le-suc h)) [ inl e ↦ inr e | inr l ↦ inl l ]

-- b is the first with the greatest of the first n places
record Ahead (l : List Float) (n b : ℕ) : Type 0 where
  pub inside : b < n
  pub before : (k : ℕ) → k < b → T (lt (get_or l k nan) (get_or l b nan))
  pub most : (k : ℕ) → k < n → lt (get_or l b nan) (get_or l k nan) ≡ false

module _ (l : List Float) (R : (k : ℕ) → k < length l → T (ranked (get_or l k nan))) where
  ahead_one : 0 < length l → Ahead l 1 0
  ahead_one h = record {
    inside = omega arith;
    before = λ k u. absurd (not-suc-le-zero u);
    most = λ k u. let e : k ≡ 0 = omega arith in rw e (same_not (get_or l 0 nan) (R 0 h));
  }

  takes : (n b : ℕ) → n < length l → Ahead l n b → T (lt (get_or l b nan) (get_or l n nan)) → Ahead l (suc n) n
  takes n b h a t =
      let under : (k : ℕ) → k < n → T (lt (get_or l k nan) (get_or l n nan)) = λ k u. above (get_or l b nan) (get_or l k nan) (get_or l n nan) (R b (omega (arith, a.inside))) (R k (omega arith)) (R n h) (a.most k u) t in
      record {
        inside = omega arith;
        before = under;
        most = λ k u. ⊎_elim (λ v. asym (get_or l k nan) (get_or l n nan) (R k (omega arith)) (R n h) (under k v)) (λ e. rw e (same_not (get_or l n nan) (R n h))) (below-or-at k n u);
      }

  keeps : (n b : ℕ) → Ahead l n b → lt (get_or l b nan) (get_or l n nan) ≡ false → Ahead l (suc n) b
  keeps n b a f = record {
    inside = omega (arith, a.inside);
    before = a.before;
    most = λ k u. ⊎_elim (a.most k) (λ e. rw e f) (below-or-at k n u);
  }

  ahead_more : (n b : ℕ) → n < length l → Ahead l n b → Ahead l (suc n) (better l b n)
  ahead_more n b h a = ⊎_elim (λ e. rw e (takes n b h a (holds e))) (λ e. rw e (keeps n b a e)) (outcomes (lt (get_or l b nan) (get_or l n nan)))

  best_ahead : (n : ℕ) → n < length l → Ahead l (suc n) (best l (suc n))
  unfolding best
  best_ahead zero h = rw (same_not (get_or l 0 nan) (R 0 h)) (ahead_one h)
  best_ahead (suc n) h = ahead_more (suc n) (best l (suc n)) h (best_ahead n (omega arith))

  whole : (n : ℕ) → n ≡ length l → 0 < n → Ahead l n (best l n)
  whole zero e h = absurd (not-suc-le-zero h)
  whole (suc n) e h = best_ahead n (omega arith)

  -- THE LAW: the scan's place is the first with the greatest
  pub best-first : 0 < length l → First l (best l (length l))
  best-first h =
      let a = whole (length l) refl h in
      record { inside = a.inside; before = a.before; after = λ k _ u. a.most k u }

  pub best-most : 0 < length l → (k : ℕ) → k < length l → lt (get_or l (best l (length l)) nan) (get_or l k nan) ≡ false
  best-most h = (whole (length l) refl h).most

-- the scan's place is never past the places that it has seen
pub best-within : (l : List Float) (n : ℕ) → best l n ≤ n
unfolding best
best-within l zero = omega arith
best-within l (suc n) = ⊎_elim (λ t. rw t (omega arith)) (λ f. rw f (omega (arith, best-within l n))) (outcomes (lt (get_or l (best l n) nan) (get_or l n nan)))

-- a turn of the scan
pub scan_takes : (l : List Float) (b i : ℕ) (v : Float) → b ≡ best l i → v ≡ get_or l b nan → lt v (get_or l i nan) ≡ true → i ≡ best l (i + 1)
unfolding best
scan_takes l b i v e w t = rw (add-one i, ← e, ← w, t)

pub scan_keeps : (l : List Float) (b i : ℕ) (v : Float) → b ≡ best l i → v ≡ get_or l b nan → lt v (get_or l i nan) ≡ false → b ≡ best l (i + 1)
unfolding best
scan_keeps l b i v e w t = rw (add-one i, ← e, ← w, t)

-- two places of which neither can be before the other are one
pub alone : {P : ℕ → Type 0} → ((a b : ℕ) → P a → P b → a < b → ⊥) → {a b : ℕ} → P a → P b → a ≡ b
alone clash {a} {b} f g =
    ⊎_elim
    (λ u. absurd (clash a b f g (ltb-true a b u)))
    (λ u. elim (eq-or-lt_of_le (ltb-false a b u)) [ inl e ↦ sym e | inr h ↦ absurd (clash b a g f h) ])
    (outcomes (ltb a b))

-- so no other place is
pub first_only : {l : List Float} {a b : ℕ} → First l a → First l b → a ≡ b
first_only {l} = alone {P = First l} (λ a b f g h. true≢false (sym (is_true (lt (get_or l a nan) (get_or l b nan)) (g.before a h)) ∙ f.after b h g.inside))
