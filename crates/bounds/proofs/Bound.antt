-- How large what an operation of binary32 gives can be: a size is counted in steps of 2 ^ -149, the smallest f32 above zero. Assumes nothing.
use mathlib.Core.Path.{◌≡◌, refl, sym, ap, ◌∙◌, subst}
use mathlib.Core.Bool.{Bool, true, false, ◌&&◌, ◌||◌, beq, cond, true≢false}
use Prim.Native.Nat.{ℕ, suc, ◌+◌, ◌-◌, ◌*◌, ◌^◌, ◌≤◌, ◌<◌, zero-le}
use native.Mathlib.Nat.{le_trans, le_of_eq, le_of_lt, lt_of_lt_of_le, lt_irrefl, one-mul, mul-one, zero-mul, mul_comm, mul_assoc, mul_left_comm, mul_right_comm, add-mul, mul-le-mul, mul-le-mul_left, mul-le-mul_right, mul-lt-mul_of_pos_right, le_of_mul-le-mul_right, mul-pos}
use native.Mathlib.Omega.{arith}
use lib.IntN.{ℤ, pos, negsuc}
use lib.Dec.{T, leb, ltb, eqb, eqb→eq, ltb→lt, leb→le, lit<, lit≤}
use lib.Pow.{pow-add, pow_pos, pow_mono}
use lib.Ieee.{Float, nan, inf, fin, binary32, unlike, up, down, round, neg, sum, add, sub, mul, div, of_int, of_bits, le}
use lib.Ieee.Fits.{down_pos, and_l}
use lib.Ieee.Exact.{HasValue, round_exact}
use lib.Ieee.Order.{round_mono, transfer}
use mir.Syntax.{w16}
use mir.Val.{SFits}
use Rattle.laws.specs.Numbers.{zero32}
use Rattle.laws.proofs.Sign.{round_neg, Plus, round_plus}
use Rattle.laws.proofs.Whole.{whole-value}
use Rattle.bounds.specs.Within.{Within}
use Rattle.bounds.specs.Size.{Size}

-- binary32 holds q * 2 ^ k steps
pub record Room (k q : ℕ) : Type 0 where
  pub few : q < 2 ^ 24
  pub low : q * 2 ^ k < 2 ^ 277

pub room : {k q : ℕ} → k ≤ 253 → T (ltb q (2 ^ 24)) → Room k q
room {k} {q} K t =
    let Q : q < 2 ^ 24 = ltb→lt q (2 ^ 24) t in
    record { few = Q; low = lt_of_lt_of_le (mul-lt-mul_of_pos_right Q (pow_pos k)) (le_trans (mul-le-mul_left (2 ^ 24) (pow_mono K)) (lit≤ tt)) }

-- ---- a rounded value
within-neg : (a c : ℕ) (x : Float) → Within a c x → Within a c (neg x)
unfolding neg
within-neg a c nan h = h
within-neg a c (inf s) h = h
within-neg a c (fin s m e) h = h

lt-or_eq : (a b : ℕ) → T (ltb a b || (eqb a b && true)) → a ≤ b
lt-or_eq a b t = go (ltb a b) (eqb a b && true) (λ u. le_of_lt (ltb→lt a b u)) (λ u. le_of_eq (eqb→eq a b (and_l (eqb a b) true u))) t
  where
    go : (p q : Bool) → (T p → a ≤ b) → (T q → a ≤ b) → T (p || q) → a ≤ b
    go true q f g t = f tt
    go false q f g t = g t

-- what is not below zero, and at most a value of known size
within_of_le : (x y : Float) (b c : ℕ) → Plus x → HasValue y false b c → T (le x y) → Within b c x
unfolding le
within_of_le nan y b c p v h = p
within_of_le (inf true) y b c p v h = absurd (true≢false p)
within_of_le (inf false) nan b c p v h = h
within_of_le (inf false) (inf t) b c p v h = v
within_of_le (inf false) (fin t n d) b c p v h = h
within_of_le (fin true m e) y b c p v h = absurd (true≢false p)
within_of_le (fin false m e) nan b c p v h = absurd v
within_of_le (fin false m e) (inf t) b c p v h = absurd v
within_of_le (fin false m e) (fin true n d) b c p v h = absurd (true≢false v.0)
within_of_le (fin false m e) (fin false n d) b c p v h =
    transfer (m * up e) b (down e) c (m * up e) (n * up d) (down e) (down d) (down_pos e) (down_pos d) refl (sym v.1) (lt-or_eq (m * up e * down d) (n * up d * down e) h)

-- THE law: what is at most a value that binary32 holds is rounded to at most that value
pub rounded : {k q : ℕ} → Room k q → (s : Bool) (a c : ℕ) → 0 < c → a * 2 ^ 149 ≤ q * 2 ^ k * c → Size k q (round binary32 s a c)
rounded {k} {q} R s a c C h = record { fact = go s }
  where
    plus : Within (q * 2 ^ k) (2 ^ 149) (round binary32 false a c)
    plus =
        within_of_le (round binary32 false a c) (round binary32 false (q * 2 ^ k) (2 ^ 149)) (q * 2 ^ k) (2 ^ 149) (round_plus binary32 a c)
        (round_exact binary32 false (q * 2 ^ k) (2 ^ 149) q k (pow_pos 149) R.few R.low refl)
        (round_mono binary32 a c (q * 2 ^ k) (2 ^ 149) C (pow_pos 149) h)

    go : (b : Bool) → Within (q * 2 ^ k) (2 ^ 149) (round binary32 b a c)
    go true = subst (Within (q * 2 ^ k) (2 ^ 149)) (sym (round_neg binary32 a c)) (within-neg (q * 2 ^ k) (2 ^ 149) (round binary32 false a c) plus)
    go false = plus

-- ---- sums and differences
summed : {k q : ℕ} → Room k q → (s : Bool) (a : ℕ) (t : Bool) (b c : ℕ) → 0 < c → (a + b) * 2 ^ 149 ≤ q * 2 ^ k * c → Size k q (sum binary32 s a t b c)
unfolding sum
summed {k} {q} R s a t b c C h = first (beq s t)
  where
    less : (n : ℕ) → n ≤ a + b → n * 2 ^ 149 ≤ q * 2 ^ k * c
    less n l = le_trans (mul-le-mul_right (2 ^ 149) l) h

    apart : (x : Bool) → Size k q (cond x (round binary32 t (b - a) c) (round binary32 (s && ltb b a) (a - b) c))
    apart true = rounded R t (b - a) c C (less (b - a) (omega arith))
    apart false = rounded R (s && ltb b a) (a - b) c C (less (a - b) (omega arith))

    first : (x : Bool) → Size k q (cond x (round binary32 s (a + b) c) (cond (ltb a b) (round binary32 t (b - a) c) (round binary32 (s && ltb b a) (a - b) c)))
    first true = rounded R s (a + b) c C h
    first false = apart (ltb a b)

-- m / e ≤ q / l and n / d ≤ r / l, so their sum is at most (q + r) / l
sum_fraction : (m e n d q r l : ℕ) → m * l ≤ q * e → n * l ≤ r * d → (m * d + n * e) * l ≤ (q + r) * (e * d)
sum_fraction m e n d q r l h k =
    let a : m * d * l ≤ q * (e * d) = simp (mul_assoc, mul_comm, mul_left_comm) (simp (mul_assoc, mul_comm, mul_left_comm) at (mul-le-mul_right d h)) in
    let b : n * e * l ≤ r * (e * d) = simp (mul_assoc, mul_comm, mul_left_comm) (simp (mul_assoc, mul_comm, mul_left_comm) at (mul-le-mul_right e k)) in
    omega (arith, add-mul (m * d) (n * e) l, add-mul q r (e * d))

pub plus : {k q r : ℕ} {x y : Float} → Room k (q + r) → Size k q x → Size k r y → Size k (q + r) (add binary32 x y)
unfolding add
plus {x = nan} R h g = absurd h.fact
plus {x = inf s} R h g = absurd h.fact
plus {x = fin s m e} {y = nan} R h g = absurd g.fact
plus {x = fin s m e} {y = inf t} R h g = absurd g.fact
plus {k} {q} {r} {x = fin s m e} {y = fin t n d} R h g =
    summed R s (m * up e * down d) t (n * up d * down e) (down e * down d) (mul-pos (down_pos e) (down_pos d))
    (le_trans (sum_fraction (m * up e) (down e) (n * up d) (down d) (q * 2 ^ k) (r * 2 ^ k) (2 ^ 149) h.fact g.fact)
    (le_of_eq (ap (λ (z : ℕ). z * (down e * down d)) (sym (add-mul q r (2 ^ k))))))

pub minus : {k q : ℕ} {x : Float} → Size k q x → Size k q (neg x)
minus {k} {q} {x} h = record { fact = within-neg (q * 2 ^ k) (2 ^ 149) x h.fact }

pub less : {k q r : ℕ} {x y : Float} → Room k (q + r) → Size k q x → Size k r y → Size k (q + r) (sub binary32 x y)
unfolding sub
less R h g = plus R h (minus g)

-- ---- products: 2 ^ (j - 149) times 2 ^ (k - 149) is 2 ^ (i - 149) where j + k is i + 149
-- m / e ≤ a / l and n / d ≤ b / l, and a * b ≤ i * l: the product is at most i / l
mul_fraction : (m e n d a b i l : ℕ) → 0 < l → a * b ≤ i * l → m * l ≤ a * e → n * l ≤ b * d → m * n * l ≤ i * (e * d)
mul_fraction m e n d a b i l L p h k =
    le_of_mul-le-mul_right
    (le_trans (le_of_eq (simp (mul_assoc, mul_comm, mul_left_comm) refl))
    (le_trans (mul-le-mul h k)
    (le_trans (le_of_eq (simp (mul_assoc, mul_comm, mul_left_comm) refl))
    (le_trans (mul-le-mul_right (e * d) p) (le_of_eq (simp (mul_assoc, mul_comm, mul_left_comm) refl))))))
    L

powers : (i j k q r : ℕ) → j + k ≡ i + 149 → q * 2 ^ j * (r * 2 ^ k) ≡ q * r * 2 ^ i * 2 ^ 149
powers i j k q r e =
    let p : 2 ^ j * 2 ^ k ≡ 2 ^ i * 2 ^ 149 = sym (pow-add 2 j k) ∙ ap (λ (n : ℕ). 2 ^ n) e ∙ pow-add 2 i 149 in
    mul_assoc q (2 ^ j) (r * 2 ^ k) ∙ ap (λ (n : ℕ). q * n) (mul_left_comm (2 ^ j) r (2 ^ k) ∙ ap (λ (n : ℕ). r * n) p) ∙ sym (mul_assoc q r (2 ^ i * 2 ^ 149)) ∙ sym (mul_assoc (q * r) (2 ^ i) (2 ^ 149))

pub product : {i j k q r : ℕ} {x y : Float} → Room i (q * r) → j + k ≡ i + 149 → Size j q x → Size k r y → Size i (q * r) (mul binary32 x y)
unfolding mul
product {x = nan} R p h g = absurd h.fact
product {x = inf s} R p h g = absurd h.fact
product {x = fin s m e} {y = nan} R p h g = absurd g.fact
product {x = fin s m e} {y = inf t} R p h g = absurd g.fact
product {i} {j} {k} {q} {r} {x = fin s m e} {y = fin t n d} R p h g =
    rounded R (unlike s t) (m * up e * (n * up d)) (down e * down d) (mul-pos (down_pos e) (down_pos d))
    (mul_fraction (m * up e) (down e) (n * up d) (down d) (q * 2 ^ j) (r * 2 ^ k) (q * r * 2 ^ i) (2 ^ 149) (pow_pos 149) (le_of_eq (powers i j k q r p)) h.fact g.fact)

-- ---- the quotient by a value that is b at least
abbrev pub AtLeast : ℕ → Float → Type 0
AtLeast b nan = ⊥
AtLeast b (inf s) = ⊥
AtLeast b (fin s m e) = b * down e ≤ m * up e

div_fraction : (m e n d a b i l : ℕ) → a ≤ i * b → m * l ≤ a * e → b * d ≤ n → m * d * l ≤ i * (n * e)
div_fraction m e n d a b i l p h k =
    le_trans (le_of_eq (mul_right_comm m d l))
    (le_trans (mul-le-mul_right d h)
    (le_trans (le_of_eq (mul_assoc a e d))
    (le_trans (mul-le-mul_right (e * d) p)
    (le_trans (le_of_eq (simp (mul_assoc, mul_comm, mul_left_comm) refl))
    (le_trans (mul-le-mul_right (i * e) k) (le_of_eq (simp (mul_assoc, mul_comm, mul_left_comm) refl)))))))

-- a value that is 1 at least is not 0
above : (b n : ℕ) (d : ℤ) → 0 < b → AtLeast b (fin false n d) → 0 < n * up d
above b n d B g = lt_of_lt_of_le (mul-pos B (down_pos d)) g

pub part_pos : (b n : ℕ) (d : ℤ) → 0 < b → AtLeast b (fin false n d) → T (eqb n 0) → ⊥
part_pos b n d B g z = lt_irrefl 0 (subst (λ (m : ℕ). 0 < m) (ap (λ (m : ℕ). m * up d) (eqb→eq n 0 z) ∙ zero-mul (up d)) (above b n d B g))

pub quotient : {j k p q : ℕ} {x : Float} (b : ℕ) (y : Float) → Room k q → 0 < b → p * 2 ^ j ≤ q * 2 ^ k * b → Size j p x → AtLeast b y → Size k q (div binary32 x y)
unfolding div
quotient {x = nan} b y R B l h g = absurd h.fact
quotient {x = inf s} b y R B l h g = absurd h.fact
quotient {x = fin s m e} b nan R B l h g = absurd g
quotient {x = fin s m e} b (inf t) R B l h g = absurd g
quotient {j} {k} {p} {q} {x = fin s m e} b (fin t n d) R B l h g = go (eqb n 0) (part_pos b n d B g)
  where
    go : (z : Bool) → (T z → ⊥) → Size k q (cond z (cond (eqb m 0) nan (inf (unlike s t))) (round binary32 (unlike s t) (m * up e * down d) (n * up d * down e)))
    go true w = absurd (w tt)
    go false w =
        rounded R (unlike s t) (m * up e * down d) (n * up d * down e) (mul-pos (above b n d B g) (down_pos e))
        (div_fraction (m * up e) (down e) (n * up d) (down d) (p * 2 ^ j) b (q * 2 ^ k) (2 ^ 149) l h.fact g)

-- ---- the same size in other words
within_more : (a b c : ℕ) (x : Float) → a ≤ b → Within a c x → Within b c x
within_more a b c nan l h = h
within_more a b c (inf s) l h = h
within_more a b c (fin s m e) l h = le_trans h (mul-le-mul_right (down e) l)

pub more : {k q : ℕ} (r : ℕ) {x : Float} → q ≤ r → Size k q x → Size k r x
more {k} {q} r {x} l h = record { fact = within_more (q * 2 ^ k) (r * 2 ^ k) (2 ^ 149) x (mul-le-mul_right (2 ^ k) l) h.fact }

-- q 2 ^ g multiples of 2 ^ k are q of 2 ^ (k + g)
pub raise : {k : ℕ} (q g : ℕ) {x : Float} → Size k (q * 2 ^ g) x → Size (k + g) q x
raise {k} q g {x} h =
    record { fact = subst (λ (n : ℕ). Within n (2 ^ 149) x) (mul_assoc q (2 ^ g) (2 ^ k) ∙ ap (λ (n : ℕ). q * n) (mul_comm (2 ^ g) (2 ^ k) ∙ sym (pow-add 2 k g))) h.fact }

-- finite, and at most 2 ^ k
pub plain : (k : ℕ) {x : Float} → Size (k + 149) 1 x → Within (2 ^ k) 1 x
plain k {x} h = go x h.fact
  where
    go : (x : Float) → Within (1 * 2 ^ (k + 149)) (2 ^ 149) x → Within (2 ^ k) 1 x
    go nan h = h
    go (inf s) h = h
    go (fin s m e) h =
        le_of_mul-le-mul_right
        (le_trans (le_of_eq (ap (λ (n : ℕ). n * 2 ^ 149) (mul-one (m * up e))))
        (le_trans h (le_of_eq (ap (λ (n : ℕ). n * down e) (one-mul (2 ^ (k + 149)) ∙ pow-add 2 k 149) ∙ mul_right_comm (2 ^ k) (2 ^ 149) (down e)))))
        (pow_pos 149)

pub sized : (k : ℕ) (x : Float) → Within (2 ^ k) 1 x → Size (k + 149) 1 x
sized k x h = record { fact = go x h }
  where
    go : (x : Float) → Within (2 ^ k) 1 x → Within (1 * 2 ^ (k + 149)) (2 ^ 149) x
    go nan h = h
    go (inf s) h = h
    go (fin s m e) h =
        le_trans (mul-le-mul_right (2 ^ 149) (le_trans (le_of_eq (sym (mul-one (m * up e)))) h))
        (le_of_eq (mul_right_comm (2 ^ k) (down e) (2 ^ 149) ∙ ap (λ (n : ℕ). n * down e) (sym (one-mul (2 ^ (k + 149)) ∙ pow-add 2 k 149))))

-- n / 1 is at most b where a test says so
pub one_over : (n b : ℕ) → T (leb n b) → n * 1 ≤ b
one_over n b t = le_trans (le_of_eq (mul-one n)) (leb→le n b t)

-- ---- whole numbers
pub zero_size : (k q : ℕ) → Size k q zero32
unfolding of_bits
zero_size k q = record { fact = le_trans (le_of_eq (zero-mul (2 ^ 149))) zero-le }

-- a width, cast to f32
pub whole-at-least : (n : ℕ) → n ≤ 2 ^ 24 → AtLeast n (of_int binary32 (pos n))
whole-at-least n h = go (of_int binary32 (pos n)) (whole-value n h)
  where
    go : (x : Float) → HasValue x false n 1 → AtLeast n x
    go nan h = h
    go (inf t) h = h
    go (fin t m e) h = le_of_eq (sym h.1 ∙ mul-one (m * up e))

pub whole-plus : (n : ℕ) → Plus (of_int binary32 (pos n))
unfolding of_int
whole-plus n = round_plus binary32 n 1

cast : (n : ℕ) → n ≤ 2 ^ 15 → n * 2 ^ 149 ≤ 1 * 2 ^ 164 * 1
cast n h = le_trans (mul-le-mul_right (2 ^ 149) h) (lit≤ tt)

-- a 16-bit sample, cast to f32: -2 ^ 15 included
pub sample : (z : ℤ) → SFits w16 z → Size 164 1 (of_int binary32 z)
unfolding of_int
sample (pos n) h = rounded (room (lit≤ tt) tt) false n 1 (lit< tt) (cast n (le_of_lt h.sfits))
sample (negsuc n) h = rounded (room (lit≤ tt) tt) true (suc n) 1 (lit< tt) (cast (suc n) h.sfits)
