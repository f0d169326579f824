-- The FFT over any plan of radices 2, 3, 4 and 5: each stage adds its growth to the exponent of the bound. Assumes nothing.
use mathlib.Core.Path.{◌≡◌, refl, sym, ap, ◌∙◌, subst}
use mathlib.Core.Bool.{Bool}
use mathlib.Core.List.{List, [], ◌∷◌}
use Prim.Native.Nat.{ℕ, zero, suc, ◌+◌, ◌*◌, ◌/◌, ◌%◌, ◌≤◌, ◌<◌, zero-le}
use native.Mathlib.Nat.{le_of_eq, le_of_lt, lt_of_le_of_lt, lt_of_lt_of_le, mul_comm, mul_assoc, mul_left_comm, mul-le-mul_left, mul-lt-mul_of_pos_right, lt_of_mul-lt-mul_right, mul-pos, mul-one, one-mul, mul-suc, add-zero, add_assoc, mod-lt, div-add-mod'}
use native.Mathlib.Omega.{arith}
use lib.Dec.{T, lit<}
use borrow.Author.Tests.{lt-ltb}
use Rattle.complex.specs.declared.Complex.{Complex}
use Rattle.butterflies.specs.Butterflies.{stage, twist, column2, column3, column4, column5}
use Rattle.kf_work.specs.Work.{span, planned, column, work}
use Rattle.kf_work.proofs.Plan.{split, inner_positive, sub_nums}
use Rattle.bounds.specs.Size.{Both, Small}
use Rattle.bounds.specs.Growth.{Column, grow, growth}
use Rattle.bounds.proofs.Columns.{by_twiddle, by2, by3, by4, by5}

-- ---- numbers of a stage
-- twiddle q * (j * s) is in the table
twiddle_in : (q j m p s N : ℕ) → j < m → q < p → 0 < s → s * (p * m) ≡ N → q * (j * s) < N
twiddle_in q j m p s N J Q S e =
    lt_of_le_of_lt (le_of_eq (mul_left_comm q j s ∙ sym (mul_assoc j q s)))
    (lt_of_lt_of_le (mul-lt-mul_of_pos_right (lt_of_le_of_lt (mul-le-mul_left j (le_of_lt Q)) (mul-lt-mul_of_pos_right J (lt_of_le_of_lt zero-le Q))) S)
    (le_of_eq (mul_comm (m * p) s ∙ ap (λ (x : ℕ). s * x) (mul_comm m p) ∙ e)))

-- place k of p parts of m places is in part k / m
part_in : (k m p : ℕ) → k < p * m → k / m < p
part_in k m p h = lt_of_mul-lt-mul_right m (omega (arith, div-add-mod' k m))

-- place j of part q
place_in : (k m p q : ℕ) → 0 < m → q < p → k % m + m * q < p * m
place_in k m p q M Q = omega (arith, mod-lt k M, mul-le-mul_left m Q, mul-suc m q, mul_comm m p)

module _ (N : ℕ) (t : ℕ → Complex) (inverse : Bool) (small : (i : ℕ) → i < N → Small (t i)) where
  -- ---- a stage's column
  module _ (p s m j : ℕ) (S : 0 < s) (e : s * (p * m) ≡ N) (J : j < m) where
    -- as its butterfly is handed it
    twisted : (k : ℕ) → k ≤ 253 → (c : ℕ → Complex) → 0 < p → ((q : ℕ) → q < p → Both k 1 (c q)) → Column k p (twist t (j * s) c)
    twisted k K c P C =
        record { first = C 0 P; others = λ q Q. by_twiddle k K refl (C (suc q) Q) (small (suc q * (j * s)) (twiddle_in (suc q) j m p s N J Q S e)) }

    -- a p-th of a turn, and more
    fraction : (q : ℕ) → q < p → Small (t (q * (s * m)))
    fraction q Q = small (q * (s * m)) (lt_of_lt_of_le (mul-lt-mul_of_pos_right Q (mul-pos S (lt_of_le_of_lt zero-le J))) (le_of_eq (mul_left_comm p s m ∙ e)))

    one_fraction : 1 < p → Small (t (s * m))
    one_fraction Q = subst (λ (n : ℕ). Small (t n)) (one-mul (s * m)) (fraction 1 Q)

  pub column-bound : (k : ℕ) → k ≤ 253 → (p s m j : ℕ) → 2 ≤ p → p ≤ 5 → 0 < s → s * (p * m) ≡ N → j < m → (c : ℕ → Complex) → ((q : ℕ) → q < p → Both k 1 (c q))
      → (q : ℕ) → q < p → Both (k + grow p) 1 (column t inverse s p m j c q)
  unfolding column column2 column3 column4 column5
  column-bound k K zero s m j l u S e J c C = absurd (omega arith)
  column-bound k K (suc zero) s m j l u S e J c C = absurd (omega arith)
  column-bound k K (suc (suc zero)) s m j l u S e J c C = by2 k K (twist t (j * s) c) (twisted 2 s m j S e J k K c (lit< tt) C)
  column-bound k K (suc (suc (suc zero))) s m j l u S e J c C = by3 k K (twist t (j * s) c) (twisted 3 s m j S e J k K c (lit< tt) C) (t (s * m)) (one_fraction 3 s m j S e J (lit< tt))
  column-bound k K (suc (suc (suc (suc zero)))) s m j l u S e J c C = by4 k K (twist t (j * s) c) (twisted 4 s m j S e J k K c (lit< tt) C) inverse
  column-bound k K (suc (suc (suc (suc (suc zero))))) s m j l u S e J c C =
      by5 k K (twist t (j * s) c) (twisted 5 s m j S e J k K c (lit< tt) C) (t (s * m)) (t (2 * (s * m))) (one_fraction 5 s m j S e J (lit< tt)) (fraction 5 s m j S e J 2 (lit< tt))
  column-bound k K (suc (suc (suc (suc (suc (suc p)))))) s m j l u S e J c C = absurd (omega arith)

  -- ---- the whole FFT, of numbers x whose parts are at most 2 ^ k steps
  module _ (k : ℕ) (x : ℕ → Complex) (bound : (i : ℕ) → i < N → Both k 1 (x i)) where
    work-bound : (ps : List ℕ) → T (planned ps) → (s o : ℕ) → o < s → s * span ps ≡ N → k + growth ps ≤ 253 → (i : ℕ) → i < span ps → Both (k + growth ps) 1 (work t inverse x ps s o i)
    unfolding work stage planned
    work-bound [] h s o O e K i I = subst (λ (n : ℕ). Both n 1 (x o)) (sym (add-zero k)) (bound o (lt_of_lt_of_le O (le_of_eq (sym (mul-one s) ∙ e))))
    work-bound (p ∷ []) h s o O e K i I = absurd h
    work-bound (p ∷ m ∷ ps) h s o O e K i I =
        let d = split p m ps h in
        let M = inner_positive (p ∷ m ∷ ps) p m ps d in
        let same : s * p * span ps ≡ N = mul_assoc s p (span ps) ∙ ap (λ (n : ℕ). s * (p * n)) (sym d.inner) ∙ e in
        let inner : (j : ℕ) → j < p * m → Both (k + growth ps) 1 (work t inverse x ps (s * p) (o + j / m * s) (j % m)) =
        λ j J. work-bound ps d.rest-planned (s * p) (o + j / m * s) (sub_nums (p ∷ m ∷ ps) p m ps d s o (j / m) O (part_in j m p J)).3 same (omega arith) (j % m) (subst (λ (n : ℕ). j % m < n) d.inner (mod-lt j M)) in
        subst (λ (n : ℕ). Both n 1 (work t inverse x (p ∷ m ∷ ps) s o i)) (add_assoc k (growth ps) (grow p))
        (rw (lt-ltb i (p * m) I)
        (column-bound (k + growth ps) (omega arith) p s m (i % m) d.at_least d.at_most (lt_of_le_of_lt zero-le O) e (mod-lt i M) _ (λ q Q. inner (i % m + m * q) (place_in i m p q M Q)) (i / m) (part_in i m p I)))

    -- from the first input on, and all of them
    pub transform_bound : (ps : List ℕ) → T (planned ps) → span ps ≡ N → k + growth ps ≤ 253 → (i : ℕ) → i < N → Both (k + growth ps) 1 (work t inverse x ps 1 0 i)
    transform_bound ps h e K i I = work-bound ps h 1 0 (lit< tt) (one-mul (span ps) ∙ e) K i (subst (λ (m : ℕ). i < m) (sym e) I)
