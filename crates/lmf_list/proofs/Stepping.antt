-- The listing's steps come to an end: a step counts a frame more or is the last, and no more are counted than 2^64 - 1. Assumes nothing.
use Prim.Native.Nat.{ℕ, ◌+◌, ◌-◌, ◌*◌, ◌^◌, ◌≤◌, ◌<◌}
use mathlib.Core.Path.{◌≡◌, refl, sym, ap, ◌∙◌, subst}
use mathlib.Core.Logic.{◌⊎◌, inl, inr, ⊎_elim}
use mathlib.Core.Bool.{Bool, true, false, cond}
use mathlib.Core.List.{List}
use native.Mathlib.Omega.{arith}
use lib.Dec.{eqb}
use borrow.Author.Tests.{lt-ltb, ne_eqb, eq-eqb}
use Rattle.std.specs.Prelude.{Result, Ok, Err}
use Rattle.refusals.specs.declared.Refusal.{Refusal}
use Rattle.frame_file.specs.declared.Header.{Header}
use Rattle.frame_file.specs.declared.Record.{Record}
use Rattle.frame_file.specs.declared.Record.TheVariants.{Frame, End}
use Rattle.frame_file.specs.File.{lmf, header_of, record_of}
use Rattle.listing.specs.declared.Lister.{Lister}
use Rattle.listing.specs.declared.Stepped.{Stepped}
use Rattle.listing.specs.Steps.{opened, opening, counted, found, step}

-- the frames listed after a step
abbrev pub listed : Stepped → ℕ
listed s = s.lister.count

pub opens : (f : List ℕ) → listed (opening f) ≡ 0
unfolding opening
opens f = go (header_of lmf f)
  where
    go : (h : Result Header Refusal) → listed (opened h) ≡ 0
    go (Ok header) = refl
    go (Err refusal) = refl

advances : (l : Lister) (f : List ℕ) → (listed (step l f) ≡ counted l.count) ⊎ (((step l f).used ≡ 0) × (listed (step l f) ≡ l.count))
unfolding step
advances l f = go (record_of l.channel.config f)
  where
    go : (r : Result Record Refusal) → (listed (found l f r) ≡ counted l.count) ⊎ (((found l f r).used ≡ 0) × (listed (found l f r) ≡ l.count))
    go (Ok (Frame used)) = inl refl
    go (Ok End) = inr (refl, refl)
    go (Err refusal) = inr (refl, refl)

-- what is left to be counted, twice, and one more after a step that was not the last
abbrev pub to_go : Stepped → ℕ
to_go s = 2 * (2 ^ 64 - 1 - listed s) + cond (eqb s.used 0) 0 1

one_at_most : (b : Bool) → cond b 0 1 ≤ 1
one_at_most true = omega arith
one_at_most false = omega arith

pub record Goes (s t : Stepped) : Type 0 where
  pub fits : listed t ≤ 2 ^ 64 - 1
  pub less : to_go t < to_go s

-- a step after one that was not the last
pub goes : (s t : Stepped) (f : List ℕ) → (s.used ≡ 0 → ⊥) → (listed s ≡ 2 ^ 64 - 1 → ⊥) → listed s ≤ 2 ^ 64 - 1 → t ≡ step s.lister f → Goes s t
unfolding counted
goes s t f u c h e = subst (λ (t : Stepped). Goes s t) (sym e) (⊎_elim more last (advances s.lister f))
  where
    n : Stepped
    n = step s.lister f

    room : listed s < 2 ^ 64 - 1
    room = omega (arith, c)

    more : listed n ≡ counted (listed s) → Goes s n
    more p =
        let q : listed n ≡ listed s + 1 = p ∙ ap (λ (b : Bool). cond b (listed s + 1) (listed s)) (lt-ltb (listed s) (2 ^ 64 - 1) room) in
        record { fits = omega (arith, room); less = rw (ne_eqb s.used 0 u) (omega (arith, room, one_at_most (eqb n.used 0))) }

    last : (n.used ≡ 0) × (listed n ≡ listed s) → Goes s n
    last (z, p) = record { fits = omega arith; less = rw (ne_eqb s.used 0 u, eq-eqb n.used 0 z) (omega arith) }
