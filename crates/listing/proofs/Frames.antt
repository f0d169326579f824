-- A frame's answer from what the calls ensure: the lent parts are zeros, and what is measured is what was written. Assumes nothing.
use mathlib.Core.Path.{◌≡◌, refl, sym, ap, ap₂, ◌∙◌}
use mathlib.Core.List.{List, ◌∷◌}
use Prim.Native.Nat.{ℕ, zero, suc, ◌≤◌}
use native.Mathlib.Nat.{not-suc-le-zero, le_of_suc-le-suc}
use native.Mathlib.Omega.{arith}
use lib.IntN.{ℤ}
use lib.ListN.{length, take, replicate, length-replicate}
use lib.Seq.{length-take-le}
use lib.Ieee.{Float}
use Rattle.config.specs.Config.{nf, nb}
use Rattle.analysis.specs.declared.Channel.{Channel}
use Rattle.std.specs.Prelude.{Bool, false, Result, Ok, Err}
use Rattle.std.specs.Result.{result_unwrap_or}
use Rattle.refusals.specs.declared.Refusal.{Refusal}
use Rattle.refusals.specs.declared.Answered.{Answered}
use Rattle.analysis.specs.Analysis.{Given, frames, lent, outcome}
use Rattle.measurement.specs.Measurement as ms
use Rattle.loudest.specs.declared.Loudest.{Loudest}
use Rattle.loudest.specs.declared.Loudest.TheVariants.{Quiet}
use Rattle.loudest.specs.Loudest as lo
use Rattle.listing.specs.declared.frame.Listened.{Listened}
use Rattle.listing.specs.Listing.{zeros, framed, measured, listened}

take-replicate : {A : Type 0} (n m : ℕ) (a : A) → n ≤ m → take n (replicate m a) ≡ replicate n a
take-replicate zero m a h = refl
take-replicate (suc n) zero a h = absurd (not-suc-le-zero h)
take-replicate {A} (suc n) (suc m) a h = ap (λ (l : List A). a ∷ l) (take-replicate n m a (le_of_suc-le-suc h))

-- the first n places of a room of m zeros, n being the k that the configuration says
module _ {A : Type 0} (m : ℕ) (a : A) {n k : ℕ} {l : List A} (p : l ≡ replicate m a) (q : n ≡ k) (h : k ≤ m) where
  pub part-within : n ≤ length l
  part-within = omega (arith, ap length p, length-replicate m a)

  pub part_length : n ≡ length (take n l)
  part_length = sym (length-take-le n l part-within)

  pub part_is : take n l ≡ replicate k a
  part_is = ap₂ take q p ∙ take-replicate k m a h

abbrev told : ℕ → Given × Channel → ms.Given → Listened
told c g m = record { flag = m.flag; loudest = (lo.heard c m.energies).loudest; channel = g.1 }

-- what the code takes of the answers
abbrev answer : Answered Channel → Result Bool Refusal → Result Loudest Refusal → Listened
answer r m h = record { flag = result_unwrap_or m false; loudest = result_unwrap_or h Quiet; channel = r.channel }

flag-is : (m : Result Bool Refusal) → result_unwrap_or m false ≡ ms.flagged m
flag-is (Ok flag) = refl
flag-is (Err e) = refl

loudest-is : (h : Result Loudest Refusal) → result_unwrap_or h Quiet ≡ (lo.outcome h).loudest
loudest-is (Ok l) = refl
loudest-is (Err e) = refl

module _ (ch : Channel) (x : List ℤ) where
  -- l is lent to the frame call and comes back as l', e and o to the measurement and come back as e' and o'
  pub listened_is : (l l' e e' : List Float) (o o' : List ℕ) (r : Answered Channel) (m : Result Bool Refusal) (h : Result Loudest Refusal) {flag : Bool} {loudest : Loudest}
      → l ≡ zeros (nf ch.config) → e ≡ zeros (nb ch.config) → o ≡ replicate (nb ch.config) 0
      → frames ch (lent x l) ≡ outcome r l' → ms.outcome m e' o' ≡ ms.measures ch.config (ms.lent l' e o) → lo.outcome h ≡ lo.heard ch.config e'
      → flag ≡ result_unwrap_or m false → loudest ≡ result_unwrap_or h Quiet
      → (record { flag = flag; loudest = loudest; channel = r.channel } ≡ listened ch x) × (l' ≡ (framed ch x).0.lines) × (e' ≡ (measured ch x).energies) × (o' ≡ (measured ch x).peaks)
  unfolding listened
  listened_is l l' e e' o o' r m h p q t f g k ef el =
      let f' : outcome r l' ≡ framed ch x = sym f ∙ ap (λ (a : List Float). frames ch (lent x a)) p in
      let s : l' ≡ (framed ch x).0.lines = ap (λ (y : Given × Channel). y.0.lines) f' in
      let g' : ms.outcome m e' o' ≡ measured ch x = g ∙ (λ i. ms.measures ch.config (ms.lent (s i) (q i) (t i))) in
      let loud = el ∙ loudest-is h ∙ ap (λ (y : lo.Heard). y.loudest) k in
      ((λ j. record { flag = (ef ∙ flag-is m) j; loudest = loud j; channel = r.channel }) ∙ ap₂ (told ch.config) f' g', s, ap (λ (y : ms.Given). y.energies) g', ap (λ (y : ms.Given). y.peaks) g')
