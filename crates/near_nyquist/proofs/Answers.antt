-- What `answer` and `asked` say, case by case, as the code's tests have it. Assumes nothing.
use mathlib.Core.Path.{◌≡◌, refl, sym, ap, ap₂, ◌∙◌}
use mathlib.Core.Bool.{false}
use mathlib.Core.List.{List}
use Prim.Native.Nat.{ℕ, ◌+◌, ◌-◌, ◌≤◌, ◌<◌}
use lib.Dec.{ltb}
use lib.Ieee.{Float}
use borrow.Author.Tests.{lt-ltb, le-ltb, le-leb, lt-leb}
use Rattle.std.specs.Prelude.{⊤, Result, Ok, Err}
use Rattle.config.specs.Config.{nb, rate, upper}
use Rattle.refusals.specs.declared.Refusal.{Refusal}
use Rattle.refusals.specs.Refusals.{told_by, on_energies}
use Rattle.refusals.proofs.Verdicts as verdicts
use Rattle.refusals.proofs.Energies.{gives-refusal, gives-answer}
use Rattle.near_nyquist.specs.declared.Sooner.{Sooner}
use Rattle.near_nyquist.specs.Sooner.{Asked, stop, told, refusal, answer, asked, outcome}

pub at-48 : (c : ℕ) (es : List Float) → 32000 < rate c → told false 0 ≡ answer c es
unfolding answer
at-48 c es h = rw (lt-leb (rate c) 32000 h)

-- n is the number of bands, u that of the upper ones, b the band that it stopped at
module _ (c : ℕ) (es : List Float) (low : rate c ≤ 32000) {n u b : ℕ} (en : n ≡ nb c) (eu : u ≡ upper c) (eb : b ≡ stop (n - u) es) where
  band-is : b ≡ stop (nb c - upper c) es
  band-is = eb ∙ ap₂ (λ (i j : ℕ). stop (i - j) es) en eu

  pub stopped : b < n → told (ltb b n) (b + 1) ≡ answer c es
  unfolding answer
  stopped h = rw (le-leb (rate c) 32000 low, ← band-is, ← en, lt-ltb b n h)

  pub never : n ≤ b → told (ltb b n) n ≡ answer c es
  unfolding answer
  never h = rw (le-leb (rate c) 32000 low, ← band-is, ← en, le-ltb b n h)

-- what is asked of energies that the tests refuse, and of those that pass them
module _ (c : ℕ) (es : List Float) where
  pub refused : (r : Refusal) → told_by {A = ⊤} (Err r) ≡ on_energies c es → outcome (Err r) ≡ asked c es
  unfolding asked
  refused r e = gives-refusal refusal _ c es _ e (verdicts.refused r)

  pub passed : (s : Sooner) → told_by {A = ⊤} (Ok tt) ≡ on_energies c es → told s.answer s.read ≡ answer c es → outcome (Ok s) ≡ asked c es
  unfolding asked
  passed s e h = h ∙ gives-answer c es _ e refl refusal _

-- one answer of the code has an outcome
abbrev lone : Result ⊤ Refusal → Result Sooner Refusal
lone (Ok a) = Ok (record { answer = false; read = 0 })
lone (Err r) = Err r

pub once : (r s : Result Sooner Refusal) → outcome r ≡ outcome s → r ≡ s
once (Ok a) (Ok b) e = ap (λ (x : Asked). Ok (record { answer = x.answer; read = x.read })) e
once (Ok a) (Err r) e = absurd (verdicts.refused r (sym (ap (λ (x : Asked). x.number) e)))
once (Err r) (Ok b) e = absurd (verdicts.refused r (ap (λ (x : Asked). x.number) e))
once (Err r) (Err s) e = ap lone (verdicts.told-injective (Err r) (Err s) (ap (λ (x : Asked). record { number = x.number; index = x.index }) e))
