-- The refusals of the DCT: each return of `judge` is the definition's verdict, and what acceptance says of the buffer. Assumes nothing.
use mathlib.Core.Path.{◌≡◌, sym, ap, ◌∙◌}
use mathlib.Core.Bool.{true, false}
use mathlib.Core.List.{List}
use Prim.Native.Nat.{ℕ}
use native.Mathlib.Omega.{arith}
use lib.Dec.{T, eqb, eqb→eq}
use lib.Ieee.{Float}
use lib.ListN.{length}
use borrow.Author.Tests.{eq-eqb, ne_eqb}
use Rattle.config.specs.Config.{among, dct_lengths}
use Rattle.refusals.specs.declared.Verdict.{Verdict}
use Rattle.refusals.specs.Refusals.{on_values}
use Rattle.refusals.proofs.Verdicts.{passed, by_values}
use Rattle.dct_steps.specs.Dct.{dct_iv}
use Rattle.dct_iv.specs.DctIv.{number, verdict, outcome, answer}

module _ (n : ℕ) (buf : List Float) where
  abbrev says : ℕ → ℕ → Type 0
  says v i = ◌≡◌ {A = Verdict} (record { number = v; index = i }) (verdict n buf)

  pub says_2 : among dct_lengths n ≡ false → says 2 0
  unfolding verdict number
  says_2 k = rw k

  pub says_3 : among dct_lengths n ≡ true → (length buf ≡ n → ⊥) → says 3 0
  unfolding verdict number
  says_3 k e = rw (k, ne_eqb (length buf) n e)

  pub says-rest : among dct_lengths n ≡ true → length buf ≡ n → {w : Verdict} → w ≡ on_values buf → w ≡ verdict n buf
  unfolding verdict number
  says-rest k e f = rw (k, eq-eqb (length buf) n e, ← e) (f ∙ by_values buf)

module _ (n : ℕ) (buf : List Float) (v : Verdict) (e : v ≡ verdict n buf) where
  is : number n buf ≡ v.number
  unfolding verdict
  is = sym (ap (λ (w : Verdict). w.number) e)

  -- what acceptance says
  pub accepts : v.number ≡ 0 → T (among dct_lengths n) × (length buf ≡ n)
  unfolding number
  accepts z =
      let p1 = passed (among dct_lengths n) _ 2 (λ y. omega arith) (is ∙ z) in
      let p2 = passed (eqb (length buf) n) _ 3 (λ y. omega arith) p1.1 in
      (p1.0, eqb→eq (length buf) n p2.0)

  pub refused : (v.number ≡ 0 → ⊥) → outcome v buf ≡ answer n buf
  unfolding answer
  refused h = rw (ne_eqb (number n buf) 0 (λ z. h (sym is ∙ z))) (ap (λ (w : Verdict). outcome w buf) e)

  pub accepted : v.number ≡ 0 → (out : List Float) → out ≡ dct_iv buf → outcome v out ≡ answer n buf
  unfolding answer
  accepted z out h = rw (eq-eqb (number n buf) 0 (is ∙ z)) (λ j. outcome (e j) (h j))
