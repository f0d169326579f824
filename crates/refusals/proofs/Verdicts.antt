-- What a number of acceptance says of the tests that gave it, and the verdict on values as the definitions of the calls have it. Assumes nothing.
use mathlib.Core.Path.{◌≡◌, refl, sym, ap, ◌∙◌}
use mathlib.Core.Bool.{Bool, true, false, not, cond, ◌&&◌}
use mathlib.Core.List.{List}
use Prim.Native.Nat.{ℕ, suc, ◌≤◌}
use native.Mathlib.Omega.{arith}
use lib.Dec.{T, eqb, ltb, eqb→eq}
use lib.Ieee.{Float}
use lib.Ieee.Fits.{and_l, and_r}
use lib.ListN.{length}
use borrow.Author.Tests.{eq-eqb, ne_eqb}
use Rattle.std.specs.Prelude.{Option, Some, None, ⊤, Result, Ok, Err}
use Rattle.laws.specs.Lists.{first, failing}
use Rattle.laws.specs.Passes.{passes6}
use Rattle.laws.proofs.Lists.{failing_first}
use Rattle.refusals.specs.declared.Verdict.{Verdict}
use Rattle.refusals.specs.declared.Refusal.{Refusal}
use Rattle.refusals.specs.declared.Refusal.TheVariants.{BadConfig, BadSize, BadInput, BadOutput, BadEnergies, BadValue, BadEnergy, ShortFile, BadMark, BadVersion, CutFrame}
use Rattle.refusals.specs.Refusals.{accepted, bad_config, bad_size, bad_input, bad_output, bad_energies, bad_value, bad_energy, short_file, bad_mark, bad_version, verdict_of, told, number_of, index_of, told_by, on_values}

-- a test that was passed, and the number of those after it
pub passed : (b : Bool) (v k : ℕ) → (k ≡ 0 → ⊥) → cond b v k ≡ 0 → T b × (v ≡ 0)
passed true v k h e = (tt, e)
passed false v k h e = absurd (h e)

-- the same of a chain that has its refusals first
pub went_on : (b : Bool) (k : ℕ) {v : ℕ} → cond (not b) (suc k) v ≡ 0 → T b × (v ≡ 0)
went_on true k e = (tt, e)
went_on false k e = absurd (omega arith)

-- two lengths tested together
pub both_are : (a b n : ℕ) → T (eqb a n && eqb b n) → (a ≡ n) × (b ≡ n)
both_are a b n t = (eqb→eq a n (and_l (eqb a n) (eqb b n) t), eqb→eq b n (and_r (eqb a n) (eqb b n) t))

pub first_is_not : (a b n : ℕ) → (a ≡ n → ⊥) → (eqb a n && eqb b n) ≡ false
first_is_not a b n h = rw (ne_eqb a n h)

pub second_is_not : (a b n : ℕ) → a ≡ n → (b ≡ n → ⊥) → (eqb a n && eqb b n) ≡ false
second_is_not a b n e h = rw (eq-eqb a n e, ne_eqb b n h)

-- the test of 6 as the last of a call: its number, and the index that goes with it
pub by_values : (x : List Float) → on_values x ≡ verdict_of (cond (ltb (first passes6 x) (length x)) bad_value accepted) (first passes6 x)
unfolding on_values
by_values x = go (ltb (first passes6 x) (length x)) (first passes6 x)
  where
    go : (b : Bool) (i : ℕ) → cond b (record { number = bad_value; index = i }) (told accepted) ≡ verdict_of (cond b bad_value accepted) i
    go true i = refl
    go false i = refl

-- the verdict by the first value that fails, if there is one
abbrev pub by_first : ℕ → Option ℕ → Verdict
by_first number (Some i) = record { number = number; index = i }
by_first number None = told accepted

abbrev first_of : Bool → ℕ → Option ℕ
first_of b i = cond b (Some i) None

pub values_by : (x : List Float) → on_values x ≡ by_first bad_value (failing passes6 x)
unfolding on_values
values_by x = go (ltb (first passes6 x) (length x)) (first passes6 x) ∙ ap (by_first bad_value) (sym (failing_first passes6 x))
  where
    go : (b : Bool) (i : ℕ) → cond b (record { number = bad_value; index = i }) (told accepted) ≡ by_first bad_value (first_of b i)
    go true i = refl
    go false i = refl

-- ---- an answer and its verdict
pub refused : (r : Refusal) → number_of r ≡ accepted → ⊥
refused BadConfig e = omega arith
refused BadSize e = omega arith
refused BadInput e = omega arith
refused BadOutput e = omega arith
refused BadEnergies e = omega arith
refused (BadValue i) e = omega arith
refused (BadEnergy i) e = omega arith
refused ShortFile e = omega arith
refused BadMark e = omega arith
refused BadVersion e = omega arith
refused CutFrame e = omega arith

-- the refusal of a number and an index
abbrev refusal_of : ℕ → ℕ → Refusal
refusal_of n i =
    cond (eqb n bad_config) BadConfig
    (cond (eqb n bad_size) BadSize
    (cond (eqb n bad_input) BadInput
    (cond (eqb n bad_output) BadOutput
    (cond (eqb n bad_energies) BadEnergies
    (cond (eqb n bad_value) (BadValue i)
    (cond (eqb n bad_energy) (BadEnergy i)
    (cond (eqb n short_file) ShortFile
    (cond (eqb n bad_mark) BadMark
    (cond (eqb n bad_version) BadVersion CutFrame)))))))))

back : (r : Refusal) → refusal_of (number_of r) (index_of r) ≡ r
back BadConfig = refl
back BadSize = refl
back BadInput = refl
back BadOutput = refl
back BadEnergies = refl
back (BadValue i) = refl
back (BadEnergy i) = refl
back ShortFile = refl
back BadMark = refl
back BadVersion = refl
back CutFrame = refl

abbrev answer_of : Verdict → Result ⊤ Refusal
answer_of v = cond (eqb v.number accepted) (Ok tt) (Err (refusal_of v.number v.index))

answer-back : (r : Result ⊤ Refusal) → answer_of (told_by r) ≡ r
answer-back (Ok a) = refl
answer-back (Err r) = rw (ne_eqb (number_of r) accepted (refused r), back r) refl

-- one answer has a verdict
pub told-injective : (r s : Result ⊤ Refusal) → told_by r ≡ told_by s → r ≡ s
told-injective r s e = sym (answer-back r) ∙ (ap answer_of e ∙ answer-back s)

-- a number up to 5 goes with no place, so that it alone tells the answer
plain : (r : Result ⊤ Refusal) → (told_by r).number ≤ 5 → told_by r ≡ told (told_by r).number
plain (Ok a) h = refl
plain (Err BadConfig) h = refl
plain (Err BadSize) h = refl
plain (Err BadInput) h = refl
plain (Err BadOutput) h = refl
plain (Err BadEnergies) h = refl
plain (Err (BadValue i)) h = absurd (omega arith)
plain (Err (BadEnergy i)) h = absurd (omega arith)
plain (Err ShortFile) h = refl
plain (Err BadMark) h = refl
plain (Err BadVersion) h = refl
plain (Err CutFrame) h = refl

pub number-injective : (r s : Result ⊤ Refusal) (n : ℕ) → n ≤ 5 → (told_by r).number ≡ n → (told_by s).number ≡ n → r ≡ s
number-injective r s n h e f =
    told-injective r s (plain r (omega arith) ∙ ap told (e ∙ sym f) ∙ sym (plain s (omega arith)))
