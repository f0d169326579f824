-- The tests of a call on energies, which are 1, 5 and 7 in this order: what `on_energies` gives, by the code's tests, and what a call gives that goes by its
-- verdict, whatever it answers on energies that pass. Assumes nothing.
use mathlib.Core.Path.{◌≡◌, refl, sym, ap, ◌∙◌}
use mathlib.Core.Bool.{Bool, true, false, not, cond}
use mathlib.Core.List.{List}
use Prim.Native.Nat.{ℕ}
use native.Mathlib.Omega.{arith}
use lib.Dec.{T, eqb, eqb→eq}
use lib.ListN.{length}
use lib.Ieee.{Float}
use borrow.Author.Tests.{eq-eqb, ne_eqb}
use Rattle.std.specs.Prelude.{Some, None}
use Rattle.laws.specs.Lists.{first, failing}
use Rattle.laws.specs.Passes.{passes7}
use Rattle.laws.proofs.Lists.{failing_last}
use Rattle.config.specs.Config.{valid, nb}
use Rattle.refusals.specs.declared.Verdict.{Verdict}
use Rattle.refusals.proofs.Verdicts.{by_first}
use Rattle.refusals.specs.Refusals.{accepted, bad_config, bad_energies, bad_energy, told, judged, on_energies}

-- v and n are what the code has for the configuration's being one, and its number of bands
module _ (c : ℕ) (l : List Float) {v : Bool} (ev : v ≡ valid c) where
  pub gives_1 : v ≡ false → told bad_config ≡ on_energies c l
  unfolding on_energies
  gives_1 h = rw (sym ev ∙ h)

  module _ (h : v ≡ true) {n : ℕ} (en : n ≡ nb c) where
    pub gives_5 : (length l ≡ n → ⊥) → told bad_energies ≡ on_energies c l
    unfolding on_energies
    gives_5 g = rw (sym ev ∙ h, ne_eqb (length l) (nb c) (λ e. g (e ∙ sym en)))

    module _ (e : length l ≡ n) where
      chosen : (b : Bool) (k : ℕ) → cond b (told accepted) (record { number = bad_energy; index = k }) ≡ by_first bad_energy (cond (not b) (Some k) None)
      chosen true k = refl
      chosen false k = refl

      -- the last test, by the first energy that fails, if there is one
      pub gives_7 : on_energies c l ≡ by_first bad_energy (failing passes7 l)
      unfolding on_energies
      gives_7 =
          rw (sym ev ∙ h, eq-eqb (length l) (nb c) (e ∙ en))
          (chosen (eqb (first passes7 l) (length l)) (first passes7 l) ∙ ap (by_first bad_energy) (sym (failing_last passes7 l)))

-- a chain of three refusals, over its tests
abbrev chain : {A : Type 0} → (ℕ → ℕ → A) → A → Bool → Bool → Bool → ℕ → A
chain refusal answer p q r i = cond (not p) (refusal bad_config 0) (cond (not q) (refusal bad_energies 0) (cond r answer (refusal bad_energy i)))

abbrev verdicts : Bool → Bool → Bool → ℕ → Verdict
verdicts = chain (λ n i. record { number = n; index = i }) (told accepted)

module _ {A : Type 0} (refusal : ℕ → ℕ → A) (answer : A) where
  chain_refused : (p q r : Bool) (i : ℕ) (v : Verdict) → v ≡ verdicts p q r i → (v.number ≡ 0 → ⊥) → refusal v.number v.index ≡ chain refusal answer p q r i
  chain_refused false q r i v e h = ap (λ (w : Verdict). refusal w.number w.index) e
  chain_refused true false r i v e h = ap (λ (w : Verdict). refusal w.number w.index) e
  chain_refused true true false i v e h = ap (λ (w : Verdict). refusal w.number w.index) e
  chain_refused true true true i v e h = absurd (h (ap (λ (w : Verdict). w.number) e))

  module _ (c : ℕ) (l : List Float) (v : Verdict) (e : v ≡ on_energies c l) where
    -- a refused call gives the verdict's own number and index
    pub gives-refusal : (v.number ≡ 0 → ⊥) → refusal v.number v.index ≡ judged refusal answer c l
    unfolding on_energies
    gives-refusal h = chain_refused (valid c) (eqb (length l) (nb c)) (eqb (first passes7 l) (length l)) (first passes7 l) v e h

-- what energies that are not refused have passed
pub record Passed (c : ℕ) (l : List Float) : Type 0 where
  pub config : valid c ≡ true
  pub bands : length l ≡ nb c
  pub energies : first passes7 l ≡ length l

chain_passed : (p q r : Bool) (i : ℕ) (v : Verdict) → v ≡ verdicts p q r i → v.number ≡ 0 → (p ≡ true) × T q × T r
chain_passed false q r i v e z = absurd (omega (arith, ap (λ (w : Verdict). w.number) e))
chain_passed true false r i v e z = absurd (omega (arith, ap (λ (w : Verdict). w.number) e))
chain_passed true true false i v e z = absurd (omega (arith, ap (λ (w : Verdict). w.number) e))
chain_passed true true true i v e z = (refl, tt, tt)

module _ (c : ℕ) (l : List Float) (v : Verdict) (e : v ≡ on_energies c l) (z : v.number ≡ 0) where
  pub passed : Passed c l
  unfolding on_energies
  passed =
      let t = chain_passed (valid c) (eqb (length l) (nb c)) (eqb (first passes7 l) (length l)) (first passes7 l) v e z in
      record { config = t.0; bands = eqb→eq (length l) (nb c) t.1; energies = eqb→eq (first passes7 l) (length l) t.2 }

  -- an accepted call gives its answer
  pub gives-answer : {A : Type 0} (refusal : ℕ → ℕ → A) (answer : A) → answer ≡ judged refusal answer c l
  gives-answer refusal answer =
      rw (passed.config, eq-eqb (length l) (nb c) passed.bands, eq-eqb (first passes7 l) (length l) passed.energies)
