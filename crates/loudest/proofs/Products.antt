-- A band's product: it can be ranked, and it is a zero exactly when the energy is. Assumes nothing.
use mathlib.Core.Path.{◌≡◌, refl, sym, ap, ◌∙◌, subst}
use mathlib.Core.Logic.{⊎_elim}
use mathlib.Core.Bool.{Bool, true, false, ◌||◌, true≢false}
use Prim.Native.Nat.{ℕ, ◌*◌, ◌^◌, ◌≤◌, ◌<◌}
use native.Mathlib.Nat.{le_trans, le_of_eq, mul-one, one-mul, zero-mul, mul_comm, mul-le-mul, mul-le-mul_right, mul-pos, eq-zero-or-pos}
use native.Mathlib.Omega.{arith}
use lib.Dec.{T, lit<}
use lib.Pow.{pow_pos}
use lib.Ieee.{Float, nan, inf, fin, binary32, unlike, up, down, below, level, round, mul, lt, eq, le, fits}
use lib.Ieee.Fits.{up_pos, down_pos}
use lib.Ieee.Exact.{HasValue, round_exact}
use lib.Ieee.Order.{round_mono}
use lib.Ieee.Positive.{first_pos}
use lib.Ieee.Bits.{is_true}
use borrow.Author.Tests.{eq-eqb, ne_eqb, eqb-true, le-ltb}
use Rattle.laws.specs.Passes.{passes7, ranked}
use Rattle.laws.proofs.Sign.{round_plus}
use Rattle.laws.proofs.Order.{plus-ranked}
use Rattle.laws.proofs.Units.{fitting}
use Rattle.loudest.specs.Loudest.{silent}

-- ---- a zero
silent-ranked : (x : Float) → silent x ≡ true → T (ranked x)
unfolding silent
silent-ranked nan h = absurd (true≢false (sym h))
silent-ranked (inf s) h = absurd (true≢false (sym h))
silent-ranked (fin true m e) h = rw h tt
silent-ranked (fin false m e) h = tt

-- of a value that is 0 / c
silent-value : (x : Float) (s : Bool) (c : ℕ) → 0 < c → HasValue x s 0 c → silent x ≡ true
unfolding silent
silent-value nan s c C h = absurd h
silent-value (inf t) s c C h = absurd h
silent-value (fin t m e) s c C h = ⊎_elim (λ z. eq-eqb m 0 z) (λ p. absurd (clash _ (mul-pos (mul-pos p (up_pos e)) C) (h.1 ∙ zero-mul (down e)))) (eq-zero-or-pos m)
  where
    clash : (n : ℕ) → 0 < n → n ≡ 0 → ⊥
    clash n p z = omega arith

round_zero : (s : Bool) (a c : ℕ) → 0 < c → a ≡ 0 → silent (round binary32 s a c) ≡ true
round_zero s a c C z =
    silent-value _ s c C (subst (λ (n : ℕ). HasValue (round binary32 s a c) s n c) z (round_exact binary32 s a c 0 0 C (lit< tt) (lit< tt) (rw z (zero-mul (2 ^ 149) ∙ sym (zero-mul c)))))

-- ---- above zero
-- a number above zero is neither below a zero of either sign nor equal to one
none_under : (a b : ℕ) (t : Bool) → 0 < a → b ≡ 0 → (below false a t b || level false a t b) ≡ true → ⊥
none_under a b true p z h = true≢false (sym h ∙ rw (ne_eqb a b (λ e. omega arith)))
none_under a b false p z h = true≢false (sym h ∙ rw (le-ltb a b (omega arith), ne_eqb a b (λ e. omega arith)))

-- no zero is as great as a value above zero
no_zero : (x y : Float) (a c : ℕ) → HasValue x false a c → 0 < a → T (le x y) → silent y ≡ true → ⊥
unfolding silent le lt eq
no_zero nan y a c v A l z = v
no_zero (inf s) y a c v A l z = v
no_zero (fin s m e) nan a c v A l z = true≢false (sym z)
no_zero (fin s m e) (inf t) a c v A l z = true≢false (sym z)
no_zero (fin true m e) (fin t k d) a c v A l z = true≢false v.0
no_zero (fin false m e) (fin t k d) a c v A l z =
    none_under (m * up e * down d) (k * up d * down e) t
    (mul-pos (first_pos (m * up e) c (rw v.1 (mul-pos A (down_pos e)))) (down_pos d))
    (ap (λ (i : ℕ). i * up d * down e) (eqb-true k 0 z) ∙ rw (zero-mul, zero-mul))
    (is_true _ l)

-- 2 ^ -149, the smallest value above zero
smallest : HasValue (round binary32 false 1 (2 ^ 149)) false 1 (2 ^ 149)
smallest = round_exact binary32 false 1 (2 ^ 149) 1 0 (pow_pos 149) (lit< tt) (lit< tt) refl

-- ---- x times the whole number n, which is y
pub times_zero : (x y : Float) (n : ℕ) → HasValue y false n 1 → silent x ≡ true → silent (mul binary32 x y) ≡ true
unfolding mul
times_zero nan y n v h = absurd (true≢false (sym (unfold silent in h)))
times_zero (inf s) y n v h = absurd (true≢false (sym (unfold silent in h)))
times_zero (fin s m e) nan n v h = absurd v
times_zero (fin s m e) (inf t) n v h = absurd v
times_zero (fin s m e) (fin t k d) n v h =
    round_zero (unlike s t) _ _ (mul-pos (down_pos e) (down_pos d)) (ap (λ (a : ℕ). a * up e * (k * up d)) (eqb-true m 0 (unfold silent in h)) ∙ rw (zero-mul, zero-mul))

pub times-ranked : (x y : Float) (n : ℕ) → HasValue y false n 1 → passes7 x ≡ true → T (ranked (mul binary32 x y))
unfolding passes7
times-ranked nan y n v p = absurd (true≢false (sym p))
times-ranked (inf s) y n v p = absurd (true≢false (sym p))
times-ranked (fin true m e) y n v p = silent-ranked _ (times_zero (fin true m e) y n v (unfold silent in p))
times-ranked (fin false m e) nan n v p = absurd v
times-ranked (fin false m e) (inf t) n v p = absurd v
times-ranked (fin false m e) (fin true k d) n v p = absurd (true≢false v.0)
times-ranked (fin false m e) (fin false k d) n v p = unfold mul in plus-ranked (round binary32 false (m * up e * (k * up d)) (down e * down d)) (round_plus binary32 (m * up e * (k * up d)) (down e * down d))

bound : (de dd a b t : ℕ) → de ≤ t → 0 < a → dd ≤ b → 1 * (de * dd) ≤ a * b * t
bound de dd a b t h p g = le_trans (le_of_eq (one-mul (de * dd) ∙ mul_comm de dd)) (mul-le-mul (le_trans g (le_trans (le_of_eq (sym (one-mul b))) (mul-le-mul_right b p))) h)

-- THE LAW: what is no zero is not rounded to one
pub zero-times : (x y : Float) (n : ℕ) → HasValue y false n 1 → 0 < n → T (fits binary32 x) → passes7 x ≡ true → silent (mul binary32 x y) ≡ true → silent x ≡ true
unfolding silent passes7 mul
zero-times nan y n v N f p h = p
zero-times (inf s) y n v N f p h = p
zero-times (fin true m e) y n v N f p h = p
zero-times (fin false m e) nan n v N f p h = absurd v
zero-times (fin false m e) (inf t) n v N f p h = absurd v
zero-times (fin false m e) (fin true k d) n v N f p h = absurd (true≢false v.0)
zero-times (fin false m e) (fin false k d) n v N f p h = ⊎_elim (λ z. eq-eqb m 0 z) (λ q. absurd (clash q)) (eq-zero-or-pos m)
  where
    clash : 0 < m → ⊥
    clash q =
        no_zero _ (mul binary32 (fin false m e) (fin false k d)) 1 (2 ^ 149) smallest (lit< tt)
        (round_mono binary32 1 (2 ^ 149) (m * up e * (k * up d)) (down e * down d) (pow_pos 149) (mul-pos (down_pos e) (down_pos d))
        (bound (down e) (down d) (m * up e) (k * up d) (2 ^ 149) (fitting false m e q f).deep (mul-pos q (up_pos e)) (le_trans (le_trans (le_of_eq (sym (one-mul (down d)))) (mul-le-mul_right (down d) N)) (le_of_eq (sym v.1 ∙ mul-one (k * up d))))))
        h
