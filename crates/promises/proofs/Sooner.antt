-- Document 02 §7: the answer by the band that it stops at, which there is exactly where the full flag is set; small facts by computation. Assumes nothing.
use Prim.Native.Nat.{ℕ, ◌+◌, ◌≤◌, ◌<◌}
use native.Mathlib.Omega.{arith}
use mathlib.Core.Path.{◌≡◌, refl, sym, ap, ◌∙◌}
use mathlib.Core.Logic.{⊎_elim}
use mathlib.Core.Bool.{Bool, true, false, true≢false}
use mathlib.Core.List.{List}
use lib.Dec.{T, ltb, leb, leb→le}
use lib.ListN.{length, get_or}
use lib.Ieee.{Float, nan, of_bits, of_fields, odd, units, round, sum, add, mul, lt}
use lib.Ieee.Bits.{is_true}
use lib.Count.{count_trailing_zeros}
use borrow.Author.Tests.{ltb-true, ltb-false, lt-ltb, le-ltb, leb-true, leb-false, le-leb, lt-leb, eq-eqb, ne_eqb}
use Rattle.laws.specs.Lists.{tab, first}
use Rattle.laws.specs.Passes.{passes6, passes7}
use Rattle.laws.proofs.Bools.{outcomes}
use Rattle.laws.proofs.Lists.{length-tab, first-none, first_all}
use Rattle.config.specs.Tables.{rows}
use Rattle.config.specs.Config.{largest, valid, row, nf, nb, rate}
use Rattle.measurement_steps.specs.Energy.{energies, total}
use Rattle.measurement.specs.Measurement.{energies_of, flag_of}
use Rattle.bounds.specs.Within.{Each}
use Rattle.bounds.proofs.Lists.{each_at}
use Rattle.near_nyquist.specs.Sooner.{Asked, running, stop, told, up_to, answer, asked}
use Rattle.near_nyquist.proofs.Sums.{stop-from, over, not-before, as_flagged}
use Rattle.promises.specs.Sooner.{split, Keeps, Passed, Stopped, Sooner}
use Rattle.promises.proofs.NoOverflow.{passing_7}

-- ---- energies that pass 7
module _ (c : ℕ) (l : List Float) (p : Passed c l) where
  is_answer : asked c l ≡ answer c l
  unfolding asked
  is_answer = rw (le-leb c largest p.config, eq-eqb (length l) (nb c) p.bands, eq-eqb (first passes7 l) (length l) p.values)

  fit : split c ≤ length l
  fit = omega (arith, p.bands)

  abbrev at : ℕ
  at = stop (split c) l

  high : 32000 < rate c → asked c l ≡ told false 0
  unfolding answer
  high h = is_answer ∙ rw (lt-leb (rate c) 32000 h)

  low : rate c ≤ 32000 → asked c l ≡ up_to (nb c) at
  unfolding answer
  low h = is_answer ∙ rw (le-leb (rate c) 32000 h)

  -- at 48 kHz, where it stops, and where it never does
  by_case : {X : Type 0}
      → (32000 < rate c → asked c l ≡ told false 0 → X)
      → (rate c ≤ 32000 → at < nb c → asked c l ≡ told true (at + 1) → X)
      → (rate c ≤ 32000 → nb c ≤ at → asked c l ≡ told false (nb c) → X)
      → X
  by_case f g h =
      ⊎_elim
      (λ t. let r = leb-true (rate c) 32000 t in ⊎_elim (λ u. g r (ltb-true at (nb c) u) (low r ∙ rw u)) (λ u. h r (ltb-false at (nb c) u) (low r ∙ rw u)) (outcomes (ltb at (nb c))))
      (λ s. let r = leb-false (rate c) 32000 s in f r (high r))
      (outcomes (leb (rate c) 32000))

  taken : ((asked c l).number ≡ 0) × ((asked c l).index ≡ 0)
  taken = by_case (λ r e. both e) (λ r h e. both e) (λ r h e. both e)
    where
      both : {b : Bool} {n : ℕ} → asked c l ≡ told b n → ((asked c l).number ≡ 0) × ((asked c l).index ≡ 0)
      both e = (ap (λ (a : Asked). a.number) e, ap (λ (a : Asked). a.index) e)

  -- the full flag, by the same cases
  full : rate c ≤ 32000 → flag_of c l ≡ ltb at (nb c)
  unfolding flag_of
  full r = rw (le-leb (rate c) 32000 r) (sym (as_flagged (split c) l fit (first_all passes7 l nan p.values)) ∙ ap (ltb at) p.bands)

  off : 32000 < rate c → flag_of c l ≡ false
  unfolding flag_of
  off r = rw (lt-leb (rate c) 32000 r)

  flag : (asked c l).answer ≡ flag_of c l
  flag =
      by_case
      (λ r e. ap (λ (a : Asked). a.answer) e ∙ sym (off r))
      (λ r h e. ap (λ (a : Asked). a.answer) e ∙ sym (full r ∙ lt-ltb at (nb c) h))
      (λ r h e. ap (λ (a : Asked). a.answer) e ∙ sym (full r ∙ le-ltb at (nb c) h))

  yes : (asked c l).answer ≡ true → Stopped c l (asked c l).read
  yes y =
      by_case
      (λ r e. absurd (true≢false (sym y ∙ ap (λ (a : Asked). a.answer) e)))
      (λ r h e. record {
        band = at;
        next = ap (λ (a : Asked). a.read) e;
        from = stop-from (split c) l fit;
        inside = h;
        here = over (split c) l fit (omega (arith, p.bands));
        before = not-before (split c) l fit;
      })
      (λ r h e. absurd (true≢false (sym y ∙ ap (λ (a : Asked). a.answer) e)))

  no : rate c ≤ 32000 → (asked c l).answer ≡ false → ((asked c l).read ≡ nb c) × ((b : ℕ) → split c ≤ b → b < nb c → Keeps c l b)
  no low-rate n =
      by_case
      (λ r e. absurd (omega arith))
      (λ r h e. absurd (true≢false (sym (ap (λ (a : Asked). a.answer) e) ∙ n)))
      (λ r h e. (ap (λ (a : Asked). a.read) e, λ b from in-bands. not-before (split c) l fit b from (omega arith)))

-- ---- energies of a measurement
of_measurement : (c : ℕ) (l : List Float) → T (valid c) → length l ≡ nf c → Each (λ x. T (passes6 x)) l → Passed c (energies_of c l)
unfolding energies_of energies
of_measurement c l v n a =
    let es = energies_of c l in
    record {
      config = leb→le c largest v;
      bands = length-tab (nb c) _;
      values = sym (first-none passes7 es nan (λ k h. is_true (passes7 (get_or es k nan)) (each_at nan k (passing_7 c v l n a) h)));
    }

-- THE STATEMENT
pub sooner : Sooner
unfolding asked answer stop running total passes7 first tab row rows of_bits of_fields count_trailing_zeros odd units round sum add mul lt
sooner =
    record {
      taken = taken;
      flag = flag;
      yes = yes;
      no = no;
      high = high;
      measured = λ c l v n a. let p = of_measurement c l v n a in ((taken c (energies_of c l) p).0, flag c (energies_of c l) p);
      no_config = λ c l v. rw (lt-leb c largest v);
      bad_energies = λ c l v n. rw (le-leb c largest v, ne_eqb (length l) (nb c) n);
      bad_energy = λ c l v n i. rw (le-leb c largest v, eq-eqb (length l) (nb c) n, ne_eqb (first passes7 l) (length l) (λ e. omega arith));
      at_the_edge = refl;
      above_it = refl;
      middle = refl;
      last = refl;
      never = refl;
      zeros = refl;
      last_lower = refl;
      upper_overflow = refl;
      lower_overflow = refl;
      bound_overflow = refl;
      behind_it = refl;
      unread = refl;
      two_bad = refl;
      config_first = λ l. refl;
      length_first = refl;
      sixty = refl;
      sixty_four = refl;
    }
