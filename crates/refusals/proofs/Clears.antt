-- A clear by its test of the configuration, whatever it makes of its number and its channel's configuration. Assumes nothing.
use mathlib.Core.Path.{◌≡◌, refl, ap, ◌∙◌}
use mathlib.Core.Bool.{Bool, true, false, cond}
use Prim.Native.Nat.{ℕ}
use Rattle.std.specs.Prelude.{Ok, Err}
use Rattle.config.specs.Config.{valid}
use Rattle.refusals.specs.declared.Clear.{Clear}
use Rattle.refusals.specs.declared.Refusal.TheVariants.{BadConfig}
use Rattle.refusals.specs.Refusals.{told_by, clearing, on_clear}

-- what is made of what a clear gives
pub clearing-map : {A B : Type 0} (f : A → B) (made : ℕ → ℕ → A) (b : Bool) (c : ℕ) → f (clearing made b c) ≡ clearing (λ n d. f (made n d)) b c
clearing-map f made true c = refl
clearing-map f made false c = refl

-- what is made of a clear's number and its channel's configuration
abbrev by_clear : {A : Type 0} → (ℕ → ℕ → A) → Clear → A
by_clear made r = made (told_by r.told).number r.config

-- the same by whether the test passed
by_test : {A : Type 0} (made : ℕ → ℕ → A) (c : ℕ) (v : Bool)
    → by_clear made (cond v (record { told = Ok tt; config = c }) (record { told = Err BadConfig; config = 255 })) ≡ clearing made v c
by_test made c true = refl
by_test made c false = refl

-- the same of what the code's test gives
pub made_of : {A : Type 0} (made : ℕ → ℕ → A) (c : ℕ) (r : Clear) → r ≡ on_clear c → by_clear made r ≡ clearing made (valid c) c
made_of made c r e = ap (by_clear made) e ∙ by_test made c (valid c)
