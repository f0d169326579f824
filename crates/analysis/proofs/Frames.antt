-- What `cleared` and `frames` say, case by case, as the code's tests have it. Assumes nothing.
use mathlib.Core.Path.{◌≡◌, refl, sym, ap, ◌∙◌}
use mathlib.Core.Bool.{Bool, true, false, not, cond}
use mathlib.Core.List.{List}
use Prim.Native.Nat.{ℕ, zero, suc, ◌≤◌}
use native.Mathlib.Omega.{arith}
use lib.Dec.{T, eqb, eqb→eq}
use lib.IntN.{ℤ}
use lib.ListN.{length}
use lib.Ieee.{Float}
use borrow.Author.Tests.{eq-eqb}
use Rattle.config.specs.Config.{valid, nf}
use Rattle.refusals.specs.Refusals.{clearing}
use Rattle.refusals.proofs.Verdicts.{went_on}
use Rattle.analysis.specs.declared.Channel.{Channel}
use Rattle.analysis_lines.specs.Lines.{lines_of}
use Rattle.analysis.specs.Analysis.{kept_of, channel_of, channel_past, Lent, Given, cleared_as, cleared, number, accepted, framed, frames}

-- what a call that is not refused has passed
abbrev pub Passed : ℕ → Lent → Type 0
Passed c x = T (valid c) × (length x.input ≡ nf c) × (length x.lines ≡ nf c)

pub passed : (c : ℕ) (x : Lent) → number c x ≡ 0 → Passed c x
passed c x e =
    let p = went_on (valid c) 0 e in
    let q = went_on (eqb (length x.input) (nf c)) 2 p.1 in
    let r = went_on (eqb (length x.lines) (nf c)) 3 q.1 in
    (p.0, eqb→eq _ _ q.0, eqb→eq _ _ r.0)

-- and a call that has passed that is not refused
pub says_0 : (c : ℕ) (x : Lent) → valid c ≡ true → length x.input ≡ nf c → length x.lines ≡ nf c → 0 ≡ number c x
says_0 c x v a b = simp (v, eq-eqb _ _ a, eq-eqb _ _ b)

-- a refused call
pub refused : (ch : Channel) (x : Lent) (n : ℕ) → n ≡ number ch.config x → (n ≡ 0 → ⊥) → ◌≡◌ {A = Given × Channel} (frames ch x) (record { number = n; lines = x.lines }, ch)
unfolding frames
refused ch x zero e h = absurd (h refl)
refused ch x (suc n) e h = ap (λ (k : ℕ). framed k ch x) (sym e)

-- a call that is not refused, and what it has made
pub taken : (ch : Channel) (x : Lent) {s : List ℤ} {l : List Float} → number ch.config x ≡ 0
    → ◌≡◌ {A = Given × Channel} (accepted ch.config (channel_past ch) x.input) (record { number = 0; lines = l }, channel_of ch.config s)
    → ◌≡◌ {A = Given × Channel} (frames ch x) (record { number = 0; lines = l }, channel_of ch.config s)
unfolding frames
taken ch x e h = ap (λ (k : ℕ). framed k ch x) e ∙ h

-- an accepted call
pub made : (c : ℕ) (past x : List ℤ) (l : List Float) (s : List ℤ) → l ≡ lines_of c past x → s ≡ kept_of c past x
    → ◌≡◌ {A = Given × Channel} (record { number = 0; lines = l }, channel_of c s) (accepted c past x)
made c past x l s p t = λ i. (record { number = 0; lines = p i }, channel_of c (t i))

-- ---- no number has a place beside it
numbered : (p q r : Bool) → cond (not p) 1 (cond (not q) 3 (cond (not r) 4 0)) ≤ 5
numbered false q r = omega arith
numbered true false r = omega arith
numbered true true false = omega arith
numbered true true true = omega arith

framed-is : (ch : Channel) (x : Lent) (n : ℕ) → (framed n ch x).0.number ≡ n
framed-is ch x zero = refl
framed-is ch x (suc n) = refl

pub frames-below : (ch : Channel) (x : Lent) → (frames ch x).0.number ≤ 5
unfolding frames
frames-below ch x =
    rw (framed-is ch x (number ch.config x))
    (numbered (valid ch.config) (eqb (length x.input) (nf ch.config)) (eqb (length x.lines) (nf ch.config)))

pub cleared-below : (c : ℕ) → (cleared c).number ≤ 5
unfolding cleared
cleared-below c = go (valid c)
  where
    go : (b : Bool) → (clearing cleared_as b c).number ≤ 5
    go true = omega arith
    go false = omega arith
