-- The test of a mark byte by byte is `starts_with`. Assumes nothing.
use mathlib.Core.Path.{◌≡◌, refl, sym, ap, ◌∙◌}
use mathlib.Core.Logic.{⊎_elim}
use mathlib.Core.Bool.{Bool, true, false, ◌&&◌}
use mathlib.Core.List.{List, [], ◌∷◌}
use Prim.Native.Nat.{ℕ, ◌≤◌}
use native.Mathlib.Omega.{arith}
use lib.Dec.{eqb}
use lib.ListN.{length}
use borrow.Author.Tests.{eqb-true, eqb-false, eq-eqb, ne_eqb}
use Rattle.std.specs.List.{starts_with}
use Rattle.laws.proofs.Bools.{outcomes}
use Rattle.frame_file.specs.File.{marked}

turned : (a b : ℕ) → eqb a b ≡ eqb b a
turned a b =
    ⊎_elim
    (λ t. t ∙ sym (eq-eqb b a (sym (eqb-true a b t))))
    (λ f. f ∙ sym (ne_eqb b a (λ e. eqb-false a b f (sym e))))
    (outcomes (eqb a b))

last : (b : Bool) → (b && true) ≡ b
last true = refl
last false = refl

pub begins-is : (file mark : List ℕ) → 3 ≤ length file → length mark ≡ 3 → starts_with eqb file mark ≡ marked mark file
unfolding marked
begins-is (a ∷ b ∷ c ∷ rest) (x ∷ y ∷ z ∷ []) h l =
    (λ j. turned x a j && (turned y b j && (turned z c j && true)))
    ∙ ap (λ (t : Bool). eqb a x && (eqb b y && t)) (last (eqb c z))
begins-is [] mark h l = absurd (omega arith)
begins-is (a ∷ []) mark h l = absurd (omega arith)
begins-is (a ∷ b ∷ []) mark h l = absurd (omega arith)
begins-is (a ∷ b ∷ c ∷ rest) [] h l = absurd (omega arith)
begins-is (a ∷ b ∷ c ∷ rest) (x ∷ []) h l = absurd (omega arith)
begins-is (a ∷ b ∷ c ∷ rest) (x ∷ y ∷ []) h l = absurd (omega arith)
begins-is (a ∷ b ∷ c ∷ rest) (x ∷ y ∷ z ∷ w ∷ more) h l = absurd (omega arith)
