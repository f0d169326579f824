-- The refusals of the FFT: each return of `judge` is the definition's verdict, and what acceptance says of the slices. Assumes nothing.
use mathlib.Core.Path.{◌≡◌, refl, sym, ap, ap₂, ◌∙◌}
use mathlib.Core.Logic.{◌⊎◌, ⊎_elim}
use mathlib.Core.Bool.{Bool, true, false, cond, ◌&&◌}
use mathlib.Core.List.{List}
use Prim.Native.Nat.{ℕ, ◌<◌, ◌≤◌}
use native.Mathlib.Nat.{min-le_left, min-eq_left, min_comm}
use native.Mathlib.Omega.{arith}
use lib.Dec.{T, eqb, leb, leb→le, ltb}
use lib.Ieee.{Float}
use lib.ListN.{length}
use borrow.Author.Tests.{eq-eqb, ne_eqb, lt-ltb, le-ltb, ltb-true, ltb-false}
use Rattle.std.specs.Prelude.{min, Some, None}
use Rattle.laws.specs.Lists.{first, failing}
use Rattle.laws.specs.Passes.{passes6}
use Rattle.laws.proofs.Bools.{outcomes}
use Rattle.laws.proofs.Lists.{first-le, failing_first}
use Rattle.laws.proofs.Table.{every}
use Rattle.refusals.specs.declared.Verdict.{Verdict}
use Rattle.config.specs.Tables.{rows}
use Rattle.config.specs.Config.{row, half, among, fft_sizes}
use Rattle.config.proofs.Among.{at-among}
use Rattle.fft_tables.specs.FftTables.{packed_im}
use Rattle.fft_tables.proofs.Packs.{im-length}
use Rattle.refusals.specs.Refusals.{accepted as none, bad_value, verdict_of}
use Rattle.refusals.proofs.Verdicts.{passed, both_are, first_is_not, second_is_not, by_first}
use Rattle.kissfft.specs.Fft.{first_bad, earlier, number, verdict, Transformed, outcome, answer}

-- no FFT is of more than 240 numbers
at-most : T (every (λ k n. leb n 240) 0 fft_sizes)
unfolding fft_sizes half row rows
at-most = tt

-- so the imaginary parts of its twiddles have 239 places at most
pub room_fits : (n : ℕ) → T (among fft_sizes n) → (ti : List Float) → ti ≡ packed_im n → length ti ≤ 239
room_fits n s ti e = omega (arith, ap length e, im-length n s, leb→le n 240 (at-among (λ n. leb n 240) fft_sizes at-most n s))

-- ---- the lower of two places, where each is a place of n or their end
module _ (a b n : ℕ) (u : a ≤ n) (v : b ≤ n) where
  abbrev Lower : Type 0
  Lower = earlier (cond (ltb a n) (Some a) None) (cond (ltb b n) (Some b) None) ≡ cond (ltb (min a b) n) (Some (min a b)) None

  both : ltb a n ≡ true → ltb b n ≡ true → Lower
  both t s = rw (t, s, lt-ltb (min a b) n (omega (arith, min-le_left a b, ltb-true a n t)))

  only_first : ltb a n ≡ true → ltb b n ≡ false → Lower
  only_first t s = let e : min a b ≡ a = min-eq_left (omega (arith, ltb-false b n s)) in rw (t, s, e, t)

  only_second : ltb a n ≡ false → Lower
  only_second f = let e : min a b ≡ b = min_comm a b ∙ min-eq_left (omega (arith, ltb-false a n f)) in rw (f, e)

  lower : Lower
  lower = ⊎_elim (λ t. ⊎_elim (both t) (only_first t) (outcomes (ltb b n))) only_second (outcomes (ltb a n))

found : (x : List Float) (n : ℕ) → length x ≡ n → failing passes6 x ≡ cond (ltb (first passes6 x) n) (Some (first passes6 x)) None
found x n e = failing_first passes6 x ∙ ap (λ (m : ℕ). cond (ltb (first passes6 x) m) (Some (first passes6 x)) None) e

earlier_is : (x y : List Float) (n : ℕ) → length x ≡ n → length y ≡ n → earlier (failing passes6 x) (failing passes6 y) ≡ cond (ltb (first_bad x y) n) (Some (first_bad x y)) None
earlier_is x y n ex ey =
    let u : first passes6 x ≤ n = omega (arith, first-le passes6 x) in
    let v : first passes6 y ≤ n = omega (arith, first-le passes6 y) in
    ap₂ earlier (found x n ex) (found y n ey) ∙ lower (first passes6 x) (first passes6 y) n u v

-- two lengths tested one after the other
pub one_is_not : (a b n : ℕ) → (a ≡ n → ⊥) ⊎ ((a ≡ n) × (b ≡ n → ⊥)) → (eqb a n && eqb b n) ≡ false
one_is_not a b n = ⊎_elim (first_is_not a b n) (λ p. second_is_not a b n p.0 p.1)

module _ (n : ℕ) (x y : List Float) (c d : ℕ) where
  abbrev says : ℕ → ℕ → Type 0
  says v i = ◌≡◌ {A = Verdict} (record { number = v; index = i }) (verdict n x y c d)

  pub says_2 : among fft_sizes n ≡ false → says 2 0
  unfolding verdict number
  says_2 k = rw k

  pub says_3 : among fft_sizes n ≡ true → (eqb (length x) n && eqb (length y) n) ≡ false → says 3 0
  unfolding verdict number
  says_3 k e = rw (k, e)

  pub says_4 : among fft_sizes n ≡ true → length x ≡ n → length y ≡ n → (eqb c n && eqb d n) ≡ false → says 4 0
  unfolding verdict number
  says_4 k ex ey e = rw (k, eq-eqb (length x) n ex, eq-eqb (length y) n ey, e)

  module _ (k : among fft_sizes n ≡ true) (ex : length x ≡ n) (ey : length y ≡ n) (ec : c ≡ n) (ed : d ≡ n) where
    pub says_6 : (i : ℕ) → i ≡ first_bad x y → i < n → says 6 i
    unfolding verdict number
    says_6 i e l = rw (e, k, eq-eqb (length x) n ex, eq-eqb (length y) n ey, eq-eqb c n ec, eq-eqb d n ed, lt-ltb (first_bad x y) n (rw e at l))

    pub says_0 : (i : ℕ) → i ≡ first_bad x y → n ≤ i → says 0 0
    unfolding verdict number
    says_0 i e l = rw (k, eq-eqb (length x) n ex, eq-eqb (length y) n ey, eq-eqb c n ec, eq-eqb d n ed, le-ltb (first_bad x y) n (rw e at l))

  -- past them, by the first value that fails, if there is one
  pub says-rest : among fft_sizes n ≡ true → length x ≡ n → length y ≡ n → c ≡ n → d ≡ n → by_first bad_value (earlier (failing passes6 x) (failing passes6 y)) ≡ verdict n x y c d
  unfolding verdict number
  says-rest k ex ey ec ed =
      rw (k, eq-eqb (length x) n ex, eq-eqb (length y) n ey, eq-eqb c n ec, eq-eqb d n ed)
      (ap (by_first bad_value) (earlier_is x y n ex ey) ∙ go (ltb (first_bad x y) n) (first_bad x y))
    where
      go : (b : Bool) (i : ℕ) → by_first bad_value (cond b (Some i) None) ≡ verdict_of (cond b bad_value none) i
      go true i = refl
      go false i = refl

-- what acceptance says
pub record Accepted (n : ℕ) (x y : List Float) (c d : ℕ) : Type 0 where
  pub size : T (among fft_sizes n)
  pub x_fits : length x ≡ n
  pub y_fits : length y ≡ n
  pub c_fits : c ≡ n
  pub d_fits : d ≡ n

pub accepts : (n : ℕ) (x y : List Float) (c d : ℕ) (v : Verdict) → v ≡ verdict n x y c d → v.number ≡ 0 → Accepted n x y c d
unfolding verdict number
accepts n x y c d v e z =
    let zero : number n x y c d ≡ 0 = sym (ap (λ (w : Verdict). w.number) e) ∙ z in
    let p1 = passed (among fft_sizes n) _ 2 (λ z. omega arith) zero in
    let p2 = passed (eqb (length x) n && eqb (length y) n) _ 3 (λ z. omega arith) p1.1 in
    let p3 = passed (eqb c n && eqb d n) _ 4 (λ z. omega arith) p2.1 in
    record {
      size = p1.0;
      x_fits = (both_are _ _ n p2.0).0;
      y_fits = (both_are _ _ n p2.0).1;
      c_fits = (both_are _ _ n p3.0).0;
      d_fits = (both_are _ _ n p3.0).1;
    }

module _ (size : ℕ) (inverse : Bool) (x y re im : List Float) (v : Verdict) (e : v ≡ verdict size x y (length re) (length im)) where
  is : number size x y (length re) (length im) ≡ v.number
  unfolding verdict
  is = sym (ap (λ (w : Verdict). w.number) e)

  pub refused : (v.number ≡ 0 → ⊥) → outcome v re im ≡ answer size inverse x y re im
  unfolding answer
  refused h = rw (ne_eqb (number size x y (length re) (length im)) 0 (λ z. h (sym is ∙ z))) (ap (λ (w : Verdict). outcome w re im) e)

  pub accepted : v.number ≡ 0 → (re' im' : List Float) → length x ≡ size → Transformed inverse x y re' im' → outcome v re' im' ≡ answer size inverse x y re im
  unfolding answer
  accepted z re' im' n h =
      rw (eq-eqb (number size x y (length re) (length im)) 0 (is ∙ z), ← n)
      (λ j. outcome (rw (← n) at e j) (h.0 j) (h.1 j))
