-- The digits that the kit's `io::decimal` writes are `decimal`, and a 64-bit number has at most 20. Assumes nothing.
use mathlib.Core.Path.{◌≡◌, sym, ap, ◌∙◌, subst}
use mathlib.Core.Logic.{◌⊎◌, inl, inr, ⊎_elim}
use mathlib.Core.List.{List, [], ◌∷◌, ◌++◌}
use Prim.Native.Nat.{ℕ, zero, suc, ◌+◌, ◌-◌, ◌/◌, ◌%◌, ◌^◌, ◌≤◌, ◌<◌}
use native.Mathlib.Nat.{not-suc-le-zero, pow-suc}
use native.Mathlib.Omega.{arith}
use lib.Dec.{ltb}
use lib.ListN.{length, length-append}
use borrow.Author.Tests.{lt-ltb, le-ltb, ltb-true, ltb-false}
use Rattle.laws.proofs.Bools.{outcomes}
use Rattle.io.specs.Digits.{hex_digit_ascii, last_digits, IsDigitCount}
use Rattle.plain_text.specs.Text.{decimal, spelled}

glyph_digit : (d : ℕ) → d < 10 → hex_digit_ascii d ≡ 48 + d
glyph_digit d h = rw (lt-ltb d 10 h)

one-digit : (n : ℕ) → n < 10 → last_digits 10 1 n ≡ (48 + n) ∷ []
one-digit n h = let e : n % 10 ≡ n = omega arith in rw e (ap (λ (g : ℕ). g ∷ []) (glyph_digit n h))

ten_pos : (k : ℕ) → 0 < 10 ^ k
ten_pos zero = omega arith
ten_pos (suc k) = omega (arith, ten_pos k, pow-suc 10 k)

spelled-one : (most n : ℕ) → n < 10 → spelled (suc most) n ≡ (48 + n) ∷ []
unfolding spelled
spelled-one most n h = rw (lt-ltb n 10 h, spelled)

spelled-more : (most n : ℕ) → 10 ≤ n → spelled (suc most) n ≡ spelled most (n / 10) ++ ((48 + n % 10) ∷ [])
unfolding spelled
spelled-more most n h = rw (le-ltb n 10 h, spelled)

-- k + 1 digits, the first of them not 0
spelled_is : (k most n : ℕ) → n < most → n < 10 ^ suc k → (0 < k → 10 ^ k ≤ n) → spelled most n ≡ last_digits 10 (suc k) n
spelled_is k zero n f a b = absurd (not-suc-le-zero f)
spelled_is zero (suc most) n f a b = let h : n < 10 = a in spelled-one most n h ∙ sym (one-digit n h)
spelled_is (suc k) (suc most) n f a b =
    let low : 10 ^ suc k ≤ n = b (omega arith) in
    let big : 10 ≤ n = omega (arith, ten_pos k, pow-suc 10 k) in
    let rest = spelled_is k most (n / 10) (omega arith) (omega (arith, pow-suc 10 (suc k))) (λ h. omega (arith, pow-suc 10 k)) in
    let digit : n % 10 < 10 = omega arith in
    spelled-more most n big
    ∙ ap (λ (l : List ℕ). l ++ ((48 + n % 10) ∷ [])) rest
    ∙ ap (λ (g : ℕ). last_digits 10 (suc k) (n / 10) ++ (g ∷ [])) (sym (glyph_digit (n % 10) digit))

-- what `io::decimal` ensures of its count is enough
pub decimal_is : (n k : ℕ) → IsDigitCount 10 1 n k → last_digits 10 k n ≡ decimal n
unfolding decimal
decimal_is n zero f = absurd (not-suc-le-zero f.0)
decimal_is n (suc k) f = sym (spelled_is k (suc n) n (omega arith) f.1 (λ h. subst (λ (j : ℕ). 10 ^ j ≤ n) (less k) (f.2 (omega arith))))
  where
    less : (k : ℕ) → suc k - 1 ≡ k
    less k = omega arith

-- below 10^k there are at most k digits
few : (k most n : ℕ) → n < 10 ^ suc k → length (spelled most n) ≤ suc k
few k zero n h = unfold spelled in omega arith
few zero (suc most) n h = let l : n < 10 = h in rw (spelled-one most n l) (omega arith)
few (suc k) (suc most) n h =
    elim (lt-or_ge n 10) [
      | inl l ↦ rw (spelled-one most n l) (omega arith)
      | inr g ↦ rw (spelled-more most n g) (omega (arith, length-append (spelled most (n / 10)) ((48 + n % 10) ∷ []), few k most (n / 10) (omega (arith, pow-suc 10 (suc k)))))
    ]
  where
    lt-or_ge : (a b : ℕ) → (a < b) ⊎ (b ≤ a)
    lt-or_ge a b = ⊎_elim (λ t. inl (ltb-true a b t)) (λ f. inr (ltb-false a b f)) (outcomes (ltb a b))

pub length-decimal : (n : ℕ) → n < 2 ^ 64 → length (decimal n) ≤ 20
unfolding decimal
length-decimal n h = few 19 (suc n) n (omega arith)
