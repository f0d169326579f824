-- Values: a NaN and what is none, the kit's `io::hex` writes eight digits of 32 bits, a sample's sign. Assumes nothing.
use mathlib.Core.Path.{◌≡◌, refl, sym, ap, ◌∙◌, subst}
use mathlib.Core.Bool.{Bool, true, false, cond, true≢false}
use mathlib.Core.List.{[], ◌∷◌}
use Prim.Native.Nat.{ℕ, zero, suc, ◌+◌, ◌-◌, ◌^◌, ◌≤◌, ◌<◌}
use native.Mathlib.Nat.{pow-suc, add-suc}
use native.Mathlib.Omega.{arith}
use lib.IntN.{ℤ, pos, negsuc}
use lib.Signed.{lt_z}
use lib.Ieee.{Float, is_nan, binary32, to_bits}
use mir.Syntax.{w16}
use mir.Val.{SFits, to_z, of_z}
use mir.ValLaws.{to_z-of_z}
use borrow.Author.Tests.{ltb-true}
use Rattle.io.specs.Digits.{last_digits, IsDigitCount}
use Rattle.call_text.specs.Lines.{value, sign}

-- ---- a NaN, and what is none
pub value_is : (x : Float) {b : Bool} → is_nan x ≡ b → cond b (0x6e ∷ 0x61 ∷ 0x6e ∷ []) (last_digits 16 8 (to_bits binary32 x)) ≡ value x
unfolding value
value_is x e = ap (λ (t : Bool). cond t (0x6e ∷ 0x61 ∷ 0x6e ∷ []) (last_digits 16 8 (to_bits binary32 x))) (sym e)

-- ---- eight digits
more : (j : ℕ) → 16 ^ 8 ≤ 16 ^ (8 + j)
more zero = omega arith
more (suc j) = subst (λ (k : ℕ). 16 ^ 8 ≤ 16 ^ k) (sym (add-suc 8 j)) (omega (arith, more j, pow-suc 16 (8 + j)))

no_more : (n j : ℕ) → n < 2 ^ 32 → (8 < 8 + j → 16 ^ (8 + j - 1) ≤ n) → j ≡ 0
no_more n zero h f = refl
no_more n (suc j) h f =
    let e : 8 + suc j - 1 ≡ 8 + j = omega arith in
    let low : 16 ^ (8 + j) ≤ n = subst (λ (k : ℕ). 16 ^ k ≤ n) e (f (omega arith)) in
    omega (arith, more j)

pub hex_is : (n k : ℕ) → n < 2 ^ 32 → IsDigitCount 16 8 n k → last_digits 16 k n ≡ last_digits 16 8 n
hex_is n k h f =
    let over : 8 + (k - 8) ≡ k = omega (arith, f.0) in
    let none = no_more n (k - 8) h (subst (λ (j : ℕ). 8 < j → 16 ^ (j - 1) ≤ n) (sym over) f.2) in
    let e : k ≡ 8 = omega (arith, f.0, none) in
    ap (λ (j : ℕ). last_digits 16 j n) e

-- ---- a sample
none_below : (n : ℕ) → lt_z (pos n) (pos 0) ≡ true → ⊥
none_below n e = let h : n < 0 = ltb-true n 0 e in omega arith

-- a sample that is read is the one that was passed
module _ (x : ℤ) (h : SFits w16 x) where
  pub read_test : {b : Bool} → lt_z (to_z w16 (of_z w16 x)) (pos 0) ≡ b → lt_z x (pos 0) ≡ b
  read_test e = ap (λ (z : ℤ). lt_z z (pos 0)) (sym (to_z-of_z w16 x h)) ∙ e

pub sign_below : (z : ℤ) → lt_z z (pos 0) ≡ true → 0x2d ∷ [] ≡ sign z
sign_below (pos n) e = absurd (none_below n e)
sign_below (negsuc n) e = refl

pub sign-none : (z : ℤ) → lt_z z (pos 0) ≡ false → [] ≡ sign z
sign-none (pos n) e = refl
sign-none (negsuc n) e = absurd (true≢false e)
