-- What `cleared` and `frames` say, case by case, as the code's tests have it. Assumes nothing.
use mathlib.Core.Path.{◌≡◌, refl, sym, ap, subst, ◌∙◌}
use mathlib.Core.Bool.{Bool, true, false, not, cond}
use mathlib.Core.List.{List}
use Prim.Native.Nat.{ℕ, zero, suc, ◌≤◌}
use native.Mathlib.Omega.{arith}
use lib.Dec.{T, eqb, ltb}
use lib.ListN.{length}
use lib.Ieee.{Float}
use borrow.Author.Tests.{not-true, not-false, eq-eqb, ne_eqb, eqb-true}
use Rattle.laws.specs.Lists.{first}
use Rattle.laws.specs.Passes.{passes6}
use Rattle.config.specs.Config.{valid, nf, ne}
use Rattle.refusals.specs.declared.Verdict.{Verdict}
use Rattle.refusals.specs.Refusals.{clearing, on_values}
use Rattle.refusals.proofs.Verdicts.{by_values}
use Rattle.synthesis.specs.declared.Channel.{Channel}
use Rattle.synthesis_samples.specs.Samples.{samples_of}
use Rattle.synthesis.specs.Synthesis.{kept_of, channel_of, channel_past, Lent, Given, cleared_as, cleared, number, index, verdict, given, framed, frames}

-- the number and the index, from the tests one after the other; v is what the code's test of the configuration gave
module _ (c : ℕ) (x : Lent) {v : Bool} (e : v ≡ valid c) where
  pub says_1 : not v ≡ true → (1 ≡ number c x) × (0 ≡ index 1 x)
  says_1 h = (simp (sym e ∙ not-true v h), refl)

  module _ (h : not v ≡ false) where
    ok : valid c ≡ true
    ok = sym e ∙ not-false v h

    pub says_3 : (length x.lines ≡ ne c → ⊥) → (3 ≡ number c x) × (0 ≡ index 3 x)
    says_3 a = (simp (ok, ne_eqb _ _ a), refl)

    pub says_4 : length x.lines ≡ ne c → (length x.samples ≡ nf c → ⊥) → (4 ≡ number c x) × (0 ≡ index 4 x)
    says_4 a b = (simp (ok, eq-eqb _ _ a, ne_eqb _ _ b), refl)

-- the verdict of a call that has passed all tests but the last
pub says-rest : (c : ℕ) (x : Lent) → valid c ≡ true → length x.lines ≡ ne c → length x.samples ≡ nf c → {w : Verdict} → w ≡ on_values x.lines → w ≡ verdict c x
says-rest c x v a b f = rw (v, eq-eqb _ _ a, eq-eqb _ _ b) (f ∙ by_values x.lines)

-- what a call that is not refused has passed
pub record Passed (c : ℕ) (x : Lent) : Type 0 where
  pub is_valid : T (valid c)
  pub lines_is : length x.lines ≡ ne c
  pub samples_is : length x.samples ≡ nf c

pub passed : (c : ℕ) (x : Lent) → number c x ≡ 0 → Passed c x
passed c x = go (valid c) (eqb (length x.lines) (ne c)) (eqb (length x.samples) (nf c)) (ltb (first passes6 x.lines) (length x.lines)) refl refl refl
  where
    go : (p q r s : Bool) → valid c ≡ p → eqb (length x.lines) (ne c) ≡ q → eqb (length x.samples) (nf c) ≡ r
        → ◌≡◌ {A = ℕ} (cond (not p) 1 (cond (not q) 3 (cond (not r) 4 (cond s 6 0)))) 0 → Passed c x
    go true true true s p q r e = record { is_valid = subst T (sym p) tt; lines_is = eqb-true _ _ q; samples_is = eqb-true _ _ r }
    go true true false s p q r e = absurd (omega arith)
    go true false b s p q r e = absurd (omega arith)
    go false a b s p q r e = absurd (omega arith)

-- a refused call, by its number and by its verdict
refused : (ch : Channel) (x : Lent) (n : ℕ) → (n ≡ 0 → ⊥) → ◌≡◌ {A = Given × Channel} (framed n ch x) (record { number = n; index = index n x; samples = x.samples }, ch)
refused ch x zero h = absurd (h refl)
refused ch x (suc n) h = refl

pub refused-by : (ch : Channel) (x : Lent) (v : Verdict) → v ≡ verdict ch.config x → (v.number ≡ 0 → ⊥) → frames ch x ≡ (given v x.samples, ch)
unfolding frames
refused-by ch x v e h =
    refused ch x (number ch.config x) (λ z. h (ap (λ (w : Verdict). w.number) e ∙ z))
    ∙ ap (λ (w : Verdict). (given w x.samples, ch)) (sym e)

-- a call that is not refused, and what it has made
pub taken : (ch : Channel) (x : Lent) {s m : List Float} → number ch.config x ≡ 0
    → m ≡ kept_of ch.config x.lines → s ≡ samples_of ch.config (channel_past ch) x.lines
    → ◌≡◌ {A = Given × Channel} (frames ch x) (record { number = 0; index = 0; samples = s }, channel_of ch.config m)
unfolding frames
taken ch x e p q =
    ap (λ (j : ℕ). framed j ch x) e
    ∙ (λ i. (record { number = 0; index = 0; samples = sym q i }, channel_of ch.config (sym p i)))

-- the number of a clear has no place beside it
pub cleared-below : (c : ℕ) → (cleared c).number ≤ 5
unfolding cleared
cleared-below c = go (valid c)
  where
    go : (b : Bool) → (clearing cleared_as b c).number ≤ 5
    go true = omega arith
    go false = omega arith
