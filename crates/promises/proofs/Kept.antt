-- What every clear gives and every frame keeps, any calls from a clear on keep, for every kind of channel. Assumes nothing.
use Prim.Native.Nat.{ℕ}
use mathlib.Core.Path.{◌≡◌, refl, subst}
use mathlib.Core.Bool.{Bool, true, false, cond}
use mathlib.Core.Option.{Option, some, none, none-ne-some, some-injective}
use mathlib.Core.List.{List}
use lib.Dec.{eqb}
use Rattle.bounds.specs.Within as within
use Rattle.promises.specs.Sequence.{Kind, Call, clear, frame, clears, handed_on, after}

-- P of channels, where every call has Q
module _ (k : Kind) (P : k.Channel → Type 0) (Q : Call k.Lent → Type 0)
    (cleared : (c : ℕ) → P (k.cleared c).1) (framed : (a : k.Channel) (x : k.Lent) → Q (frame x) → P a → P (k.frames a x).1) where
  given : (c : ℕ) (a : k.Channel) → clears k c ≡ some a → P a
  given c a = go (eqb (k.cleared c).0 0)
    where
      go : (b : Bool) → cond b (some (k.cleared c).1) none ≡ some a → P a
      go true e = subst P (some-injective (k.cleared c).1 a e) (cleared c)
      go false e = absurd (none-ne-some a e)

  one : (a : k.Channel) → P a → (q : Call k.Lent) → Q q → P (handed_on k a q)
  one a p (clear c) h = go (clears k c) refl
    where
      go : (o : Option k.Channel) → clears k c ≡ o → P (elim o [ some new ↦ new | none ↦ a ])
      go (some new) e = given c new e
      go none e = p
  one a p (frame x) h = framed a x h p

  all : (a : k.Channel) → P a → {qs : List (Call k.Lent)} → within.Each Q qs → P (after k a qs)
  all a p within.none = p
  all a p (within.also {x = q} h hs) = all (handed_on k a q) (one a p q h) hs

  pub kept : (c : ℕ) (a : k.Channel) → clears k c ≡ some a → {qs : List (Call k.Lent)} → within.Each Q qs → P (after k a qs)
  kept c a e h = all a (given c a e) h
