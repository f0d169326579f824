-- The order of values that are not NaN and not below zero, -0.0 and the infinity among them. Assumes nothing.
use mathlib.Core.Path.{◌≡◌, refl, sym, ap, ◌∙◌, subst}
use mathlib.Core.Bool.{Bool, true, false, not, true≢false}
use Prim.Native.Nat.{ℕ, ◌+◌, ◌*◌, ◌≤◌, ◌<◌}
use native.Mathlib.Nat.{le_refl, le_of_eq, lt_of_lt_of_le, lt_of_le_of_lt, zero-mul, zero-add, mul_right_comm, mul-le-mul_right, mul-lt-mul_of_pos_right, lt_of_mul-lt-mul_right, not-le_of_lt}
use native.Mathlib.Omega.{arith}
use lib.IntN.{ℤ}
use lib.Dec.{T, ltb, eqb→eq, ltb→lt, lt→ltb, nltb→le, leb-suc-zero}
use lib.Ieee.{Float, nan, inf, fin, up, down, lt}
use lib.Ieee.Fits.{down_pos}
use Rattle.laws.specs.Passes.{ranked}
use Rattle.laws.proofs.Sign.{Plus}

is_false : (b : Bool) → (T b → ⊥) → b ≡ false
is_false true h = absurd (h tt)
is_false false h = refl

-- a minus sign stands at zero alone
at_zero : (m : ℕ) (e : ℤ) → T (ranked (fin true m e)) → m * up e ≡ 0
at_zero m e t = ap (λ (z : ℕ). z * up e) (eqb→eq m 0 t) ∙ zero-mul (up e)

-- the order as one of fractions
lt_fraction : (s : Bool) (m : ℕ) (e : ℤ) (t : Bool) (n : ℕ) (d : ℤ) → T (ranked (fin s m e)) → T (ranked (fin t n d)) → lt (fin s m e) (fin t n d) ≡ ltb (m * up e * down d) (n * up d * down e)
unfolding lt
lt_fraction false m e false n d p q = refl
lt_fraction false m e true n d p q = sym (ap (λ (z : ℕ). ltb (m * up e * down d) (z * down e)) (at_zero n d q) ∙ ap (λ (z : ℕ). ltb (m * up e * down d) z) (zero-mul (down e)) ∙ leb-suc-zero (m * up e * down d))
lt_fraction true m e false n d p q =
    let z : m * up e * down d ≡ 0 = ap (λ (k : ℕ). k * down d) (at_zero m e p) ∙ zero-mul (down d) in
    ap (λ (k : ℕ). ltb 0 (k + n * up d * down e)) z ∙ ap (λ (k : ℕ). ltb 0 k) (zero-add (n * up d * down e)) ∙ ap (λ (k : ℕ). ltb k (n * up d * down e)) (sym z)
lt_fraction true m e true n d p q =
    let a : m * up e * down d ≡ 0 = ap (λ (k : ℕ). k * down d) (at_zero m e p) ∙ zero-mul (down d) in
    let b : n * up d * down e ≡ 0 = ap (λ (k : ℕ). k * down e) (at_zero n d q) ∙ zero-mul (down e) in
    ap (λ (k : ℕ). ltb k (m * up e * down d)) (b ∙ sym a) ∙ ap (λ (k : ℕ). ltb (m * up e * down d) k) (a ∙ sym b)

not_true : (b : Bool) → b ≡ false → T (not b)
not_true true e = absurd (true≢false e)
not_true false e = tt

-- nothing is above an infinity, and every number is below one
top : (s : Bool) (y : Float) → T (not s) → T (lt (inf s) y) → ⊥
unfolding lt
top true y p h = p
top false nan p h = h
top false (inf t) p h = h
top false (fin t k g) p h = h

full : (s : Bool) (m : ℕ) (c : ℤ) → true ≡ lt (fin s m c) (inf false)
unfolding lt
full s m c = refl

-- e ≤ v < y: so e < y
pub above : (v e y : Float) → T (ranked v) → T (ranked e) → T (ranked y) → lt v e ≡ false → T (lt v y) → T (lt e y)
above nan e y p q r n h = absurd p
above (inf s) e y p q r n h = absurd (top s y p h)
above (fin s m c) nan y p q r n h = absurd q
above (fin s m c) (inf true) y p q r n h = absurd q
above (fin s m c) (inf false) y p q r n h = absurd (true≢false (full s m c ∙ n))
above (fin s m c) (fin t k g) nan p q r n h = absurd r
above (fin s m c) (fin t k g) (inf true) p q r n h = absurd r
above (fin s m c) (fin t k g) (inf false) p q r n h = unfold lt in tt
above (fin s m c) (fin t k g) (fin u i w) p q r n h =
    let a : k * up g * down c ≤ m * up c * down g = nltb→le (m * up c * down g) (k * up g * down c) (not_true (ltb (m * up c * down g) (k * up g * down c)) (sym (lt_fraction s m c t k g p q) ∙ n)) in
    let b : m * up c * down w < i * up w * down c = ltb→lt (m * up c * down w) (i * up w * down c) (subst T (lt_fraction s m c u i w p r) h) in
    subst T (sym (lt_fraction t k g u i w q r)) (lt→ltb (k * up g * down w) (i * up w * down g) (chain (k * up g) (m * up c) (i * up w) (down g) (down c) (down w) (down_pos c) (down_pos g) a b))
  where
    chain : (x y z p q r : ℕ) → 0 < q → 0 < p → x * q ≤ y * p → y * r < z * q → x * r < z * p
    chain x y z p q r Q P h k =
        lt_of_mul-lt-mul_right q
        (lt_of_le_of_lt (le_of_eq (mul_right_comm x r q))
        (lt_of_le_of_lt (mul-le-mul_right r h)
        (lt_of_le_of_lt (le_of_eq (mul_right_comm y p r)) (lt_of_lt_of_le (mul-lt-mul_of_pos_right k P) (le_of_eq (mul_right_comm z q p))))))

pub asym : (e y : Float) → T (ranked e) → T (ranked y) → T (lt e y) → lt y e ≡ false
asym nan y p q h = absurd p
asym (inf true) y p q h = absurd p
asym (inf false) nan p q h = absurd q
asym (inf false) (inf t) p q h = absurd (unfold lt in h)
asym (inf false) (fin t k g) p q h = absurd (unfold lt in h)
asym (fin s m c) nan p q h = absurd q
asym (fin s m c) (inf true) p q h = absurd q
asym (fin s m c) (inf false) p q h = unfold lt in refl
asym (fin s m c) (fin t k g) p q h =
    lt_fraction t k g s m c q p ∙ is_false (ltb (k * up g * down c) (m * up c * down g)) (λ (u : T (ltb (k * up g * down c) (m * up c * down g))). not-le_of_lt (lt_of_lt_of_le (ltb→lt (k * up g * down c) (m * up c * down g) u) (less (m * up c * down g) (k * up g * down c) (ltb→lt (m * up c * down g) (k * up g * down c) (subst T (lt_fraction s m c t k g p q) h)))) (le_refl (k * up g * down c)))
  where
    less : (a b : ℕ) → a < b → a ≤ b
    less a b h = omega arith

pub same_not : (x : Float) → T (ranked x) → lt x x ≡ false
same_not x p = is_false (lt x x) (λ (h : T (lt x x)). true≢false (is_true (lt x x) h ∙ asym x x p p h))
  where
    is_true : (b : Bool) → T b → true ≡ b
    is_true true t = refl
    is_true false t = absurd t

-- what has the sign plus can be ranked
pub plus-ranked : (x : Float) → Plus x → T (ranked x)
plus-ranked nan p = p
plus-ranked (inf true) p = absurd (true≢false p)
plus-ranked (inf false) p = tt
plus-ranked (fin true m e) p = absurd (true≢false p)
plus-ranked (fin false m e) p = tt
