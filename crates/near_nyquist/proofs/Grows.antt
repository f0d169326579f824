-- A sum of values that are not below zero never falls: rounding keeps order, an infinity included. Assumes nothing.
use mathlib.Core.Path.{◌≡◌, refl, sym, ap, ◌∙◌, subst}
use mathlib.Core.Logic.{⊎_elim}
use mathlib.Core.Bool.{Bool, true, false, cond, true≢false}
use Prim.Native.Nat.{ℕ, suc, ◌+◌, ◌-◌, ◌*◌, ◌≤◌, ◌<◌}
use native.Mathlib.Nat.{le_trans, le_of_eq, zero-mul, le-add_right, mul-le-mul_right, mul_right_comm, mul_assoc, mul-pos, le_of_mul-le-mul_right}
use native.Mathlib.Omega.{arith}
use lib.IntN.{ℤ}
use lib.Dec.{T, ltb, eqb-suc-zero, eqb→eq, ltb→lt, leb→le}
use lib.Ieee.{Float, nan, inf, fin, binary32, up, down, round, sum, add, mul, lt, le, fits}
use lib.Ieee.Fits.{down_pos}
use lib.Ieee.Exact.{HasValue}
use lib.Ieee.Order.{round_mono, transfer}
use lib.Ieee.Bits.{is_true}
use borrow.Author.Tests.{le-ltb}
use Rattle.laws.specs.Passes.{passes7}
use Rattle.laws.proofs.Bools.{outcomes, holds}
use Rattle.laws.proofs.Passes.{is_le}
use Rattle.laws.proofs.Sign.{Plus, round_plus}
use Rattle.laws.proofs.Order.{above, plus-ranked}
use Rattle.laws.proofs.Units.{own}

-- ---- x, which is m * 2 ^ e and which v is too, and r, which is no less than v
cancel : (m e i g D : ℕ) → 0 < D → m * D * g ≤ i * (e * D) → m * g ≤ i * e
cancel m e i g D P h = le_of_mul-le-mul_right (le_trans (le_of_eq (mul_right_comm m g D)) (le_trans h (le_of_eq (sym (mul_assoc i e D))))) P

not_under : (m : ℕ) (e : ℤ) (D : ℕ) (v r : Float) → 0 < D → HasValue v false (m * up e * D) (down e * D) → Plus r → T (le v r) → lt r (fin false m e) ≡ false
unfolding le lt
not_under m e D nan r P w p h = absurd w
not_under m e D (inf s) r P w p h = absurd w
not_under m e D (fin true n d) r P w p h = absurd (true≢false w.0)
not_under m e D (fin false n d) nan P w p h = absurd p
not_under m e D (fin false n d) (inf true) P w p h = absurd (true≢false p)
not_under m e D (fin false n d) (inf false) P w p h = refl
not_under m e D (fin false n d) (fin true i g) P w p h = absurd (true≢false p)
not_under m e D (fin false n d) (fin false i g) P w p h =
    let u : n * up d * down g ≤ i * up g * down d = leb→le _ _ (subst T (is_le (n * up d * down g) (i * up g * down d)) h) in
    le-ltb (i * up g * down e) (m * up e * down g)
    (cancel (m * up e) (down e) (i * up g) (down g) D P
    (transfer (m * up e * D) (i * up g) (down e * D) (down g) (n * up d) (i * up g) (down d) (down g) (down_pos d) (down_pos g) (sym w.1) refl u))

-- ---- a sum
-- r is the sum of x and of what is not below zero
pub record Grows (x r : Float) : Type 0 where
  pub plus : Plus r
  pub keeps : lt r x ≡ false

rounded : (m : ℕ) (e : ℤ) (D b : ℕ) → 0 < D → T (fits binary32 (fin false m e)) → Grows (fin false m e) (round binary32 false (m * up e * D + b) (down e * D))
rounded m e D b P t =
    let a = m * up e * D in
    let c = down e * D in
    let C : 0 < c = mul-pos (down_pos e) P in
    let p = round_plus binary32 (a + b) c in
    record {
      plus = p;
      keeps = not_under m e D (round binary32 false a c) _ P (own m e D P t) p (round_mono binary32 a c (a + b) c C C (mul-le-mul_right c (le-add_right a b)));
    }

-- with a -0.0
less_none : (a b c : ℕ) → b ≡ 0 → sum binary32 false a true b c ≡ round binary32 false (a + 0) c
unfolding sum
less_none a b c e = ⊎_elim (λ t. absurd (none (ltb→lt a b (holds t)))) (λ f. rw f (ap (λ (z : ℕ). round binary32 false z c) all)) (outcomes (ltb a b))
  where
    none : a < b → ⊥
    none h = omega arith

    all : a - b ≡ a + 0
    all = omega arith

pub grows : (x y : Float) → Plus x → T (fits binary32 x) → T (passes7 y) → Grows x (add binary32 x y)
unfolding add sum passes7
grows nan y p t h = absurd p
grows (inf true) y p t h = absurd (true≢false p)
grows (inf false) nan p t h = absurd h
grows (inf false) (inf s) p t h = absurd h
grows (inf false) (fin s n d) p t h = record { plus = refl; keeps = unfold lt in refl }
grows (fin true m e) y p t h = absurd (true≢false p)
grows (fin false m e) nan p t h = absurd h
grows (fin false m e) (inf s) p t h = absurd h
grows (fin false m e) (fin false n d) p t h = rounded m e (down d) (n * up d * down e) (down_pos d) t
grows (fin false m e) (fin true n d) p t h =
    let z : n * up d * down e ≡ 0 = ap (λ (k : ℕ). k * up d * down e) (eqb→eq n 0 h) ∙ rw (zero-mul, zero-mul) in
    subst (Grows (fin false m e)) (sym (less_none (m * up e * down d) (n * up d * down e) (down e * down d) z)) (rounded m e (down d) 0 (down_pos d) t)

-- what was exceeded stays so
pub beyond : {x r : Float} (b : Float) → Plus b → Plus x → Grows x r → T (lt b x) → T (lt b r)
beyond {x} {r} b q p g h =
    ⊎_elim holds (λ n. absurd (true≢false (sym (is_true (lt r x) (above b r x (plus-ranked b q) (plus-ranked r g.plus) (plus-ranked x p) n h)) ∙ g.keeps))) (outcomes (lt b r))

-- ---- a number above zero, times what has the sign plus
pub times-plus : (k : ℕ) (d : ℤ) (x : Float) → Plus x → Plus (mul binary32 (fin false (suc k) d) x)
unfolding mul
times-plus k d nan p = p
times-plus k d (inf true) p = absurd (true≢false p)
times-plus k d (inf false) p = subst (λ (c : Bool). Plus (cond c nan (inf false))) (sym (eqb-suc-zero k)) refl
times-plus k d (fin true n e) p = absurd (true≢false p)
times-plus k d (fin false n e) p = round_plus binary32 (suc k * up d * (n * up e)) (down d * down e)
