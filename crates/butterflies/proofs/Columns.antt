-- The loop over the columns of a block, for any radix and any number of columns at a time. Its invariant is `Done`: the columns below i are turned, the others
-- are not. Assumes nothing.
use mathlib.Core.Path.{◌≡◌, refl, sym, ap, ◌∙◌, fun_ext}
use mathlib.Core.List.{List}
use Prim.Native.Nat.{ℕ, ◌+◌, ◌*◌, ◌/◌, ◌%◌, ◌-◌, ◌<◌, ◌≤◌}
use native.Mathlib.Nat.{not-suc-le-zero, mod-lt, div-lt_iff_lt-mul}
use native.Mathlib.Decide.{dec_lt}
use native.Mathlib.Omega.{arith}
use borrow.Author.Tests.{lt-ltb, le-ltb}
use lib.Ieee.{Float}
use lib.ListN.{length}
use Rattle.complex.specs.declared.Complex.{Complex}
use Rattle.complex.specs.Complex.{at}
use Rattle.quads.specs.Rows.{rows, turned, turned_columns}
use Rattle.quads.specs.Radix.{Through}
use Rattle.quads.proofs.Rows.{col_of, rows_at, rows_off}
use Rattle.butterflies.specs.Butterflies.{stage}

module _ (p m : ℕ) (b : ℕ → (ℕ → Complex) → ℕ → Complex) where
  -- b looks at the p places of a column and no others
  abbrev pub Local : Type 0
  Local = (j : ℕ) (c c' : ℕ → Complex) → ((q : ℕ) → q < p → c q ≡ c' q) → b j c ≡ b j c'

  -- g is f with the columns below i turned
  unfoldable pub Done : (ℕ → Complex) → (ℕ → Complex) → ℕ → Type 0
  Done f g i = (k : ℕ) → (k % m < i → g k ≡ stage p m b f k) × (i ≤ k % m → g k ≡ f k)

  pub done_none : (f : ℕ → Complex) → Done f f 0
  unfolding Done
  done_none f k = (λ l. absurd (not-suc-le-zero l), λ _. refl)

  pub done_all : (f g : ℕ → Complex) → 0 < m → Done f g m → (k : ℕ) → g k ≡ stage p m b f k
  unfolding Done
  done_all f g h d k = (d k).0 (mod-lt k h)

  -- the n columns from i on are turned, all read before any is written: they share no place
  pub done_more : Local → (o : ℕ → ℕ) → Through p o → (n : ℕ) (f g g' : ℕ → Complex) (i : ℕ) → i + n ≤ m → Done f g i
      → g' ≡ turned_columns n p m o b i g → Done f g' (i + n)
  unfolding Done stage
  done_more loc o th n f g g' i h d stored =
      rw stored (λ k. (
        λ l. elim (dec_lt (k % m) i) [ yes lt ↦ same k (λ c s e. omega arith) ∙ (d k).0 lt | no ge ↦ inside-or_past k (k % m - i) (omega arith) (omega arith) ],
        λ l. same k (λ c s e. omega arith) ∙ (d k).1 (omega arith),
      ))
    where
      v : ℕ → ℕ → Complex
      v c = turned m b g (i + c)

      same : (k : ℕ) → ((c : ℕ) → c < n → k % m ≡ i + c → ⊥) → rows n m g i o v p k ≡ g k
      same k off = rows_off n m g i o v h p k (λ c q l b e s. off c l e)

      inside-or_past : (k c : ℕ) → c < n → k % m ≡ i + c → rows n m g i o v p k ≡ stage p m b f k
      inside-or_past k c l e = elim (dec_lt k (p * m)) [ yes lt ↦ inside lt | no ge ↦ outside ge ]
        where
          pos : 0 < m
          pos = omega arith

          inside : k < p * m → rows n m g i o v p k ≡ stage p m b f k
          inside lt =
              let below : k / m < p = (div-lt_iff_lt-mul pos).1 lt in
              rw (lt-ltb k (p * m) lt)
              (rows_at n m g i o v h p k c (o (k / m)) l e (th.into (k / m) below) (sym (th.back (k / m) below))
              ∙ ap (λ (x : ℕ → Complex). x (k / m)) (loc (i + c) _ (λ q. f (i + c + m * q)) (λ q _. (d (i + c + m * q)).1 (omega (arith, col_of m (i + c) q (omega arith)))))
              ∙ ap (λ (j : ℕ). b j (λ q. f (j + m * q)) (k / m)) (sym e))

          outside : (k < p * m → ⊥) → rows n m g i o v p k ≡ stage p m b f k
          outside ge =
              let past : p * m ≤ k = omega arith in
              rw (le-ltb k (p * m) past) (rows_off n m g i o v h p k (λ c q l b e s. ge ((div-lt_iff_lt-mul pos).0 (rw s (th.into q b)))) ∙ (d k).1 (omega arith))

  -- four columns and one are all of five
  pub done_five : Local → (o : ℕ → ℕ) → Through p o → (f g h : ℕ → Complex) → m ≡ 5 → g ≡ turned_columns 4 p m o b 0 f → h ≡ turned_columns 1 p m o b 4 g → h ≡ stage p m b f
  done_five loc o th f g h five quad one =
      let whole : Done f h 5 = done_more loc o th 1 f g h 4 (omega arith) (done_more loc o th 4 f f g 0 (omega arith) (done_none f) quad) one in
      fun_ext (done_all f h (omega arith) (rw (← five) at whole))

-- A butterfly's two loops, over the columns four at a time and over those that are left, for any radix. The invariant of the first: q quads are turned.
pub record Quads (p m : ℕ) (b : ℕ → (ℕ → Complex) → ℕ → Complex) (re₀ im₀ re im : List Float) (q : ℕ) : Type 0 where
  pub re-kept : length re ≡ length re₀
  pub im-kept : length im ≡ length im₀
  pub low : q ≤ m / 4
  pub done : Done p m b (at re₀ im₀) (at re im) (4 * q)

-- of the second: whatever was done below its first column is done below column i
pub record Singles (p m : ℕ) (b : ℕ → (ℕ → Complex) → ℕ → Complex) (re₀ im₀ : List Float) (i₀ : ℕ) (re im : List Float) (i : ℕ) : Type 0 where
  pub re-kept : length re ≡ length re₀
  pub im-kept : length im ≡ length im₀
  pub low : i ≤ m
  pub done : (f : ℕ → Complex) → Done p m b f (at re₀ im₀) i₀ → Done p m b f (at re im) i

module _ {p m : ℕ} {b : ℕ → (ℕ → Complex) → ℕ → Complex} where
  pub no_quad : {re im : List Float} → Quads p m b re im re im 0
  no_quad = record { re-kept = refl; im-kept = refl; low = omega arith; done = done_none p m b _ }

  pub no_single : {re im : List Float} {i : ℕ} → i ≤ m → Singles p m b re im i re im i
  no_single l = record { re-kept = refl; im-kept = refl; low = l; done = λ f d. d }

  -- at the end of both all columns are turned
  pub all_turned : {re₀ im₀ re₁ im₁ re im : List Float} {q i : ℕ} → 0 < m → Quads p m b re₀ im₀ re₁ im₁ q → m / 4 ≤ q → Singles p m b re₁ im₁ (m / 4 * 4) re im i → m ≤ i
      → at re im ≡ stage p m b (at re₀ im₀)
  all_turned {q = q} {i = i} h s lq s2 li =
      let whole : 4 * q ≡ m / 4 * 4 = omega arith in
      let past : i ≡ m = omega arith in
      fun_ext (done_all p m b _ _ h (rw past at (s2.done _ (rw whole at s.done))))

-- one quad more, and one single column more
module _ (p m : ℕ) (b : ℕ → (ℕ → Complex) → ℕ → Complex) (loc : Local p m b) (o : ℕ → ℕ) (th : Through p o) where
  pub quad_more : {re₀ im₀ re im re' im' : List Float} {q : ℕ} → Quads p m b re₀ im₀ re im q → q < m / 4 → length re' ≡ length re → length im' ≡ length im
      → at re' im' ≡ turned_columns 4 p m o b (4 * q) (at re im) → Quads p m b re₀ im₀ re' im' (q + 1)
  quad_more {q = q} s l er ei stored =
      let e : 4 * (q + 1) ≡ 4 * q + 4 = omega arith in
      record { re-kept = er ∙ s.re-kept; im-kept = ei ∙ s.im-kept; low = omega arith; done = rw e (done_more p m b loc o th 4 _ _ _ (4 * q) (omega arith) s.done stored) }

  pub single_more : {re₀ im₀ re im re' im' : List Float} {i₀ i : ℕ} → Singles p m b re₀ im₀ i₀ re im i → i < m → length re' ≡ length re → length im' ≡ length im
      → at re' im' ≡ turned_columns 1 p m o b i (at re im) → Singles p m b re₀ im₀ i₀ re' im' (i + 1)
  single_more {i = i} s l er ei stored =
      record { re-kept = er ∙ s.re-kept; im-kept = ei ∙ s.im-kept; low = omega arith; done = λ f d. done_more p m b loc o th 1 f _ _ i (omega arith) (s.done f d) stored }
