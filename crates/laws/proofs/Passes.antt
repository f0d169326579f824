-- The code's comparisons say what `passes6` and `passes7` say. Assumes nothing.
use mathlib.Core.Path.{◌≡◌, refl, sym, ap, ◌∙◌, subst}
use mathlib.Core.Logic.{◌⊎◌, inl, inr}
use mathlib.Core.Bool.{Bool, true, false, ◌&&◌, ◌||◌}
use Prim.Native.Nat.{ℕ, ◌+◌, ◌*◌, ◌^◌, ◌<◌}
use native.Mathlib.Nat.{le_of_eq, le_of_lt, add_comm, zero-mul, mul-one, mul-pos, eq-or-lt_of_le, eq-zero-or-pos}
use native.Mathlib.Omega.{arith}
use lib.IntN.{pos}
use lib.Dec.{T, ltb, leb, eqb, eqb_refl, eqb→eq, leb→le, le→leb, ltb→lt, lt→ltb, leb-zero}
use lib.Pow.{pow_pos}
use lib.Ieee.{Float, nan, inf, fin, up, down, neg, lt, le}
use lib.Ieee.Fits.{up_pos, down_pos, and_l}
use Rattle.laws.specs.Passes.{passes6, passes7}

-- two tests that say the same are equal
ext : (p q : Bool) → (T p → T q) → (T q → T p) → p ≡ q
ext true true f g = refl
ext true false f g = absurd (f tt)
ext false true f g = absurd (g tt)
ext false false f g = refl

or_l : (a b : Bool) → T a → T (a || b)
or_l true b t = tt
or_l false b t = absurd t

or_r : (a b : Bool) → T b → T (a || b)
or_r true b t = tt
or_r false b t = t

or_split : (a b : Bool) → T (a || b) → T a ⊎ T b
or_split true b t = inl tt
or_split false b t = inr t

and_true : (a b : Bool) → T a → (a && b) ≡ b
and_true true b t = refl
and_true false b t = absurd t

and_right : (a b : Bool) → T b → (a && b) ≡ a
and_right true true t = refl
and_right false true t = refl
and_right a false t = absurd t

eqb_sym : (a b : ℕ) → eqb a b ≡ eqb b a
eqb_sym a b = ext (eqb a b) (eqb b a) (turn a b) (turn b a)
  where
    turn : (x y : ℕ) → T (eqb x y) → T (eqb y x)
    turn x y t = subst (λ (z : ℕ). T (eqb y z)) (sym (eqb→eq x y t)) (eqb_refl y)

-- below or equal, as `le` has it of two values of one sign
pub is_le : (a b : ℕ) → (ltb a b || (eqb a b && true)) ≡ leb a b
is_le a b = ext (ltb a b || (eqb a b && true)) (leb a b) there back
  where
    there : T (ltb a b || (eqb a b && true)) → T (leb a b)
    there t = elim (or_split (ltb a b) (eqb a b && true) t) [ inl u ↦ le→leb a b (le_of_lt (ltb→lt a b u)) | inr u ↦ le→leb a b (le_of_eq (eqb→eq a b (and_l (eqb a b) true u))) ]

    same : T (eqb a b) → T (eqb a b && true)
    same t = subst T (sym (and_right (eqb a b) true tt)) t

    back : T (leb a b) → T (ltb a b || (eqb a b && true))
    back t = elim (eq-or-lt_of_le (leb→le a b t)) [ inl p ↦ or_r (ltb a b) (eqb a b && true) (same (subst (λ (x : ℕ). T (eqb a x)) p (eqb_refl a))) | inr q ↦ or_l (ltb a b) (eqb a b && true) (lt→ltb a b q) ]

-- a value of one sign is below one of the other that is not zero
apart : (a b : ℕ) (c : Bool) → 0 < b → T (ltb 0 (a + b) || c)
apart a b c h = or_l (ltb 0 (a + b)) c (lt→ltb 0 (a + b) (more a b h))
  where
    more : (a b : ℕ) → 0 < b → 0 < a + b
    more a b h = omega arith

-- 2^60 as a value
abbrev pub two60 : Float
two60 = fin false 1 (pos 60)

pub between_is : (x : Float) → (le (neg two60) x && le x two60) ≡ passes6 x
unfolding le neg passes6
between_is nan = refl
between_is (inf true) = refl
between_is (inf false) = refl
between_is (fin false m e) =
    let a = m * up e * 1 in
    let b = 2 ^ 60 * down e in
    and_true (ltb 0 (b + a) || (eqb b a && (false || eqb b 0))) (ltb a b || (eqb a b && true)) (subst (λ (n : ℕ). T (ltb 0 n || (eqb b a && (false || eqb b 0)))) (add_comm a b) (apart a b (eqb b a && (false || eqb b 0)) (mul-pos (pow_pos 60) (down_pos e))))
    ∙ is_le a b ∙ ap (λ (n : ℕ). leb n b) (mul-one (m * up e))
between_is (fin true m e) =
    let a = m * up e * 1 in
    let b = 2 ^ 60 * down e in
    and_right (ltb a b || (eqb b a && true)) (ltb 0 (a + b) || (eqb a b && (false || eqb a 0))) (apart a b (eqb a b && (false || eqb a 0)) (mul-pos (pow_pos 60) (down_pos e)))
    ∙ ap (λ (c : Bool). ltb a b || (c && true)) (eqb_sym b a) ∙ is_le a b ∙ ap (λ (n : ℕ). leb n b) (mul-one (m * up e))

-- m * 2^k is zero where m is
zero_of : (m n : ℕ) → 0 < n → T (eqb 0 (m * n)) → T (eqb m 0)
zero_of m n h t = elim (eq-zero-or-pos m) [ inl z ↦ subst (λ (k : ℕ). T (eqb k 0)) (sym z) tt | inr p ↦ absurd (clash (m * n) (mul-pos p h) (eqb→eq 0 (m * n) t)) ]
  where
    clash : (k : ℕ) → 0 < k → 0 ≡ k → ⊥
    clash k h e = omega arith

of_zero : (m n : ℕ) → T (eqb m 0) → T (eqb 0 (m * n))
of_zero m n t = subst (λ (k : ℕ). T (eqb 0 (k * n))) (sym (eqb→eq m 0 t)) (subst (λ (k : ℕ). T (eqb 0 k)) (sym (zero-mul n)) tt)

pub above_is : (x : Float) → (le (fin false 0 (pos 0)) x && lt x (inf false)) ≡ passes7 x
unfolding le lt passes7
above_is nan = refl
above_is (inf true) = refl
above_is (inf false) = refl
above_is (fin false m e) =
    and_right _ true tt ∙ is_le (0 * down e) (m * up e * 1) ∙ ap (λ (n : ℕ). leb n (m * up e * 1)) (zero-mul (down e)) ∙ leb-zero (m * up e * 1)
above_is (fin true m e) =
    and_right _ true tt
    ∙ ap (λ (n : ℕ). eqb n (m * up e * 1) && (false || eqb n 0)) (zero-mul (down e))
    ∙ ap (λ (n : ℕ). eqb 0 n && true) (mul-one (m * up e))
    ∙ and_right (eqb 0 (m * up e)) true tt
    ∙ ext (eqb 0 (m * up e)) (eqb m 0) (zero_of m (up e) (up_pos e)) (of_zero m (up e))
