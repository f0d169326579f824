-- A number that an f32 holds is a whole number of units of 2 ^ -149, and rounding leaves its value as it is. Assumes nothing.
use mathlib.Core.Path.{◌≡◌, sym, ap, ◌∙◌}
use mathlib.Core.Bool.{Bool, false, ◌&&◌}
use Prim.Native.Nat.{ℕ, zero, suc, ◌+◌, ◌-◌, ◌*◌, ◌%◌, ◌^◌, ◌≤◌, ◌<◌}
use native.Mathlib.Nat.{not-suc-le-zero, le_of_eq, le_of_suc-le-suc, lt_irrefl, lt_of_lt_of_le, lt_of_le_of_lt, lt_of_not-le, zero-mul, mul-one, one-mul, mul_assoc, mul_right_comm, mul-lt-mul_of_pos_right, lt_of_mul-lt-mul_right, mul-pos}
use native.Mathlib.Omega.{arith}
use lib.IntN.{ℤ, pos, negsuc}
use lib.Dec.{T, ltb, leb, eqb, ltb→lt, leb→le, lit<}
use lib.Pow.{pow-add, pow_pos, pow-lt}
use lib.Ieee.{fin, binary32, up, down, round, fits}
use lib.Ieee.Fits.{down_pos, and_l, and_r}
use lib.Ieee.Exact.{HasValue, round_exact}

-- what `fits` says of a number other than zero: few digits, none below the last place, and below the overflow
pub record Fitting (m : ℕ) (e : ℤ) : Type 0 where
  pub small : m < 2 ^ 24
  pub deep : down e ≤ 2 ^ 149
  pub under : m * up e < 2 ^ 128 * down e

pub fitting : (s : Bool) (m : ℕ) (e : ℤ) → 0 < m → T (fits binary32 (fin s m e)) → Fitting m e
unfolding fits
fitting s zero e p t = absurd (not-suc-le-zero p)
fitting s (suc m) e p t =
    let a : Bool = eqb (suc m % 2) 1 in
    let b : Bool = ltb (suc m) (2 ^ 24) in
    let c : Bool = leb (down e) (2 ^ 149) in
    let d : Bool = ltb (suc m * up e) (2 ^ 128 * down e) in
    record {
      small = ltb→lt (suc m) (2 ^ 24) (and_r a b (and_l (a && b) c (and_l (a && b && c) d t)));
      deep = leb→le (down e) (2 ^ 149) (and_r (a && b) c (and_l (a && b && c) d t));
      under = ltb→lt (suc m * up e) (2 ^ 128 * down e) (and_r (a && b && c) d t);
    }

pow_le_back : (i j : ℕ) → 2 ^ i ≤ 2 ^ j → i ≤ j
pow_le_back i j h = le_of_suc-le-suc (lt_of_not-le (λ (g : suc j ≤ i). lt_irrefl (2 ^ j) (lt_of_lt_of_le (pow-lt g) h)))

at_level : (k l : ℕ) → k ≤ l → 2 ^ l ≡ 2 ^ (l - k) * 2 ^ k
at_level k l h = ap (λ (z : ℕ). 2 ^ z) (split k l h) ∙ pow-add 2 (l - k) k
  where
    split : (k l : ℕ) → k ≤ l → l ≡ l - k + k
    split k l h = omega arith

-- m * 2 ^ e is m * 2 ^ unit e units
unit : ℤ → ℕ
unit (pos k) = k + 149
unit (negsuc k) = 149 - suc k

in_units : (e : ℤ) → down e ≤ 2 ^ 149 → up e * 2 ^ 149 ≡ 2 ^ unit e * down e
unfolding unit
in_units (pos k) h = sym (pow-add 2 k 149) ∙ sym (mul-one (2 ^ (k + 149)))
in_units (negsuc k) h = one-mul (2 ^ 149) ∙ at_level (suc k) 149 (pow_le_back (suc k) 149 h)

exact : (m : ℕ) (e : ℤ) (D : ℕ) → 0 < D → Fitting m e → HasValue (round binary32 false (m * up e * D) (down e * D)) false (m * up e * D) (down e * D)
exact m e D P h =
    let j = unit e in
    let u : up e * 2 ^ 149 ≡ 2 ^ j * down e = in_units e h.deep in
    let v : m * up e * 2 ^ 149 ≡ m * 2 ^ j * down e = mul_assoc m (up e) (2 ^ 149) ∙ ap (λ (z : ℕ). m * z) u ∙ sym (mul_assoc m (2 ^ j) (down e)) in
    let b : m * 2 ^ j * down e < 2 ^ 277 * down e =
    lt_of_le_of_lt (le_of_eq (sym v)) (lt_of_lt_of_le (mul-lt-mul_of_pos_right h.under (pow_pos 149)) (le_of_eq (mul_right_comm (2 ^ 128) (down e) (2 ^ 149)))) in
    round_exact binary32 false (m * up e * D) (down e * D) m j (mul-pos (down_pos e) P) h.small (lt_of_mul-lt-mul_right (down e) b)
    (mul_right_comm (m * up e) D (2 ^ 149) ∙ ap (λ (z : ℕ). z * D) v ∙ mul_assoc (m * 2 ^ j) (down e) D)

-- THE LAW: the value of what fits, with any denominator, is rounded to itself
pub own : (m : ℕ) (e : ℤ) (D : ℕ) → 0 < D → T (fits binary32 (fin false m e)) → HasValue (round binary32 false (m * up e * D) (down e * D)) false (m * up e * D) (down e * D)
own zero e D P t =
    let z : 0 * up e * D ≡ 0 = ap (λ (z : ℕ). z * D) (zero-mul (up e)) ∙ zero-mul D in
    round_exact binary32 false (0 * up e * D) (down e * D) 0 0 (mul-pos (down_pos e) P) (lit< tt) (lit< tt) (ap (λ (z : ℕ). z * 2 ^ 149) z ∙ zero-mul (2 ^ 149) ∙ sym (zero-mul (down e * D)))
own (suc m) e D P t = exact (suc m) e D P (fitting false (suc m) e (omega arith) t)
