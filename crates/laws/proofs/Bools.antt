-- A test comes out one way or the other, and what came out holds. Assumes nothing.
use mathlib.Core.Path.{◌≡◌, refl, sym, subst}
use mathlib.Core.Logic.{◌⊎◌, inl, inr}
use mathlib.Core.Bool.{Bool, true, false}
use lib.Dec.{T}

pub outcomes : (b : Bool) → (b ≡ true) ⊎ (b ≡ false)
outcomes true = inl refl
outcomes false = inr refl

pub holds : {b : Bool} → b ≡ true → T b
holds e = subst T (sym e) tt
