-- What `measures` says, case by case, as the code's tests have it. Assumes nothing.
use mathlib.Core.Path.{◌≡◌, refl, sym, ap, ◌∙◌}
use mathlib.Core.Bool.{Bool, true, false, not}
use mathlib.Core.List.{List}
use Prim.Native.Nat.{ℕ, zero, suc}
use lib.Dec.{T, eqb, eqb→eq}
use lib.ListN.{length}
use lib.Ieee.{Float}
use borrow.Author.Tests.{not-true, not-false, eq-eqb, ne_eqb}
use Rattle.std.specs.Prelude.{⊤, Result, Ok, Err}
use Rattle.config.specs.Config.{valid, nf, nb}
use Rattle.refusals.specs.declared.Verdict.{Verdict}
use Rattle.refusals.specs.declared.Refusal.{Refusal}
use Rattle.refusals.specs.Refusals.{accepted, number_of, told, told_by, on_values}
use Rattle.refusals.proofs.Verdicts.{went_on, by_values}
use Rattle.refusals.proofs.Verdicts as verdicts
use Rattle.measurement.specs.Measurement.{energies_of, peaks_of, flag_of, Lent, Given, number, verdict, refused_by, measured, measures, outcome}

-- the verdict, from the tests one after the other; v is what the code's test of the configuration gave
module _ (c : ℕ) (x : Lent) {v : Bool} (e : v ≡ valid c) where
  abbrev Says : ℕ → ℕ → Type 0
  Says n i = ◌≡◌ {A = Verdict} (record { number = n; index = i }) (verdict (number c x) x)

  pub says_1 : not v ≡ true → Says 1 0
  says_1 h = rw (sym e ∙ not-true v h)

  module _ (h : not v ≡ false) where
    ok : valid c ≡ true
    ok = sym e ∙ not-false v h

    pub says_3 : (length x.lines ≡ nf c → ⊥) → Says 3 0
    says_3 a = rw (ok, ne_eqb _ _ a)

    module _ (a : length x.lines ≡ nf c) where
      pub says_5 : (length x.energies ≡ nb c → ⊥) → Says 5 0
      says_5 b = rw (ok, eq-eqb _ _ a, ne_eqb _ _ b)

      module _ (b : length x.energies ≡ nb c) where
        pub says_5_too : (length x.peaks ≡ nb c → ⊥) → Says 5 0
        says_5_too d = rw (ok, eq-eqb _ _ a, eq-eqb _ _ b, ne_eqb _ _ d)

        -- the lengths are right: what is left is the verdict on the lines
        pub says-rest : length x.peaks ≡ nb c → {w : Verdict} → w ≡ on_values x.lines → w ≡ verdict (number c x) x
        says-rest d f = rw (ok, eq-eqb _ _ a, eq-eqb _ _ b, eq-eqb _ _ d) (f ∙ by_values x.lines)

-- a refused call
pub refused : (c : ℕ) (x : Lent) (r : Refusal) → told_by {A = ⊤} (Err r) ≡ verdict (number c x) x → outcome (Err r) x.energies x.peaks ≡ measures c x
unfolding measures
refused c x r e = ap (λ (w : Verdict). refused_by w.number w.index x) e ∙ go (number c x) (λ n. refusal (ap (λ (w : Verdict). w.number) e ∙ n))
  where
    refusal : number_of r ≡ 0 → ⊥
    refusal = verdicts.refused r

    go : (n : ℕ) → (n ≡ 0 → ⊥) → refused_by n (verdict n x).index x ≡ measured n c x
    go zero h = absurd (h refl)
    go (suc n) h = refl

-- what a call that is not refused has passed
pub record Passed (c : ℕ) (x : Lent) : Type 0 where
  pub is_valid : T (valid c)
  pub lines_is : length x.lines ≡ nf c
  pub energies_is : length x.energies ≡ nb c
  pub peaks_is : length x.peaks ≡ nb c

pub passed : (c : ℕ) (x : Lent) → number c x ≡ 0 → Passed c x
passed c x e =
    let p = went_on (valid c) 0 e in
    let q = went_on (eqb (length x.lines) (nf c)) 2 p.1 in
    let r = went_on (eqb (length x.energies) (nb c)) 4 q.1 in
    let s = went_on (eqb (length x.peaks) (nb c)) 4 r.1 in
    record { is_valid = p.0; lines_is = eqb→eq _ _ q.0; energies_is = eqb→eq _ _ r.0; peaks_is = eqb→eq _ _ s.0 }

-- a call that is not refused, and what it has made
pub made : (c : ℕ) (x : Lent) (f : Bool) (es : List Float) (ps : List ℕ) → told accepted ≡ verdict (number c x) x
    → es ≡ energies_of c x.lines → ps ≡ peaks_of c x.lines → f ≡ flag_of c es → outcome (Ok f) es ps ≡ measures c x
unfolding measures
made c x f es ps e p t q =
    (λ i. outcome (Ok ((q ∙ ap (flag_of c) p) i)) (p i) (t i)) ∙ ap (λ (w : Verdict). measured w.number c x) e

-- a call by its number
pub tells : (c : ℕ) (x : Lent) → (measures c x).number ≡ number c x
unfolding measures
tells c x = go (number c x)
  where
    go : (n : ℕ) → (measured n c x).number ≡ n
    go zero = refl
    go (suc n) = refl

pub by_number : (c : ℕ) (x : Lent) (n : ℕ) → number c x ≡ n → measures c x ≡ measured n c x
unfolding measures
by_number c x n e = ap (λ (m : ℕ). measured m c x) e

-- one answer of the code has an outcome
abbrev lone : Result ⊤ Refusal → Result Bool Refusal
lone (Ok a) = Ok false
lone (Err r) = Err r

pub once : (r s : Result Bool Refusal) (es es' : List Float) (ps ps' : List ℕ) → outcome r es ps ≡ outcome s es' ps' → r ≡ s
once (Ok a) (Ok b) es es' ps ps' e = ap (λ (x : Given). Ok x.flag) e
once (Ok a) (Err r) es es' ps ps' e = absurd (verdicts.refused r (sym (ap (λ (x : Given). x.number) e)))
once (Err r) (Ok b) es es' ps ps' e = absurd (verdicts.refused r (ap (λ (x : Given). x.number) e))
once (Err r) (Err s) es es' ps ps' e = ap lone (verdicts.told-injective (Err r) (Err s) (ap (λ (x : Given). record { number = x.number; index = x.index }) e))
