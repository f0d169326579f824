-- Document 02 §5: the pair of calls, by the number of the first and by that of the second. Assumes nothing.
use Prim.Native.Nat.{ℕ, zero, suc}
use native.Mathlib.Nat.{le_of_eq}
use native.Mathlib.Omega.{arith}
use mathlib.Core.Path.{◌≡◌, refl, sym, ap, ap₂, subst, ◌∙◌}
use mathlib.Core.Bool.{Bool, true, false, not, cond}
use mathlib.Core.List.{List, ◌∷◌}
use lib.Dec.{T, eqb, ltb}
use lib.ListN.{length}
use lib.Ieee.{Float, of_bits, of_fields, odd, units, round, sum, add, mul, div, of_int, lt}
use lib.Count.{count_trailing_zeros}
use lib.Ieee.Bits.{is_true}
use borrow.Author.Tests.{eq-eqb, ne_eqb, le-ltb}
use Rattle.laws.specs.Lists.{tab, first}
use Rattle.laws.specs.Passes.{passes6}
use Rattle.config.specs.Tables.{rows, edge_rows}
use Rattle.config.specs.Config.{valid, row, nf, nb, half, edges}
use Rattle.analysis_lines.specs.Lines.{time_buffer, lines_of}
use Rattle.analysis.specs.declared.Channel.{Channel}
use Rattle.analysis.specs.Analysis as frame
use Rattle.analysis.specs.Analysis.{Lent, channel_past, number, framed, frames, lent}
use Rattle.analysis.proofs.Frames.{passed}
use Rattle.measurement.specs.Measurement as measurement
use Rattle.measurement_steps.specs.Energy.{share, energy, band_of, energies, total, exceeds}
use Rattle.measurement.specs.Measurement.{energies_of, peaks_of, flag_of, measures}
use Rattle.measurement.proofs.Verdicts as verdicts
use Rattle.measurement.proofs.Verdicts.{tells, by_number}
use Rattle.bounds.specs.Within.{Each}
use Rattle.bounds.proofs.Lines.{length-mdct}
use Rattle.promises.specs.Sequence.{frame as call, fresh, after, recall, gives}
use Rattle.promises.specs.AnalysisChannel.{analysis}
use Rattle.promises.specs.Combined as combined
use Rattle.promises.specs.NoOverflow.{Sample}
use Rattle.promises.specs.Apart.{Given, second, joined, in_turn, aged, old, unmeasured, Pass, Never6, paired, Apart}
use Rattle.promises.proofs.Law.{configured}
use Rattle.promises.proofs.AnalysisLaw.{lawful, analysis_demand3}
use Rattle.promises.proofs.NoOverflow.{accepted, from_clear, pass_each, all_pass}

-- a test gives none of the numbers that are not in it
apart_from : (n i m : ℕ) (b : Bool) → (i ≡ n → ⊥) → (m ≡ n → ⊥) → cond b i m ≡ n → ⊥
apart_from n i m true f g = f
apart_from n i m false f g = g

-- lines that pass are not refused by 6
passing : (l : List Float) → Each (λ x. T (passes6 x)) l → ltb (first passes6 l) (length l) ≡ false
passing l h = le-ltb _ _ (le_of_eq (all_pass l h))

never_6 : (c : ℕ) (l e : List Float) (p : List ℕ) → Pass c l → (measures c (measurement.lent l e p)).number ≡ 6 → ⊥
never_6 c l e p h n =
    apart_from 6 1 _ (not (valid c)) (λ z. omega arith)
    (apart_from 6 3 _ (not (eqb (length l) (nf c))) (λ z. omega arith)
    (apart_from 6 5 _ (not (eqb (length e) (nb c))) (λ z. omega arith) (apart_from 6 5 0 (not (eqb (length p) (nb c))) (λ z. omega arith) (λ z. omega arith))))
    (rw (passing l h) at (sym (tells c (measurement.lent l e p)) ∙ n))

-- ---- the pair, by the number of its first call
module _ (a : Channel) (x : combined.Lent) (p : List ℕ) where
  abbrev c : ℕ
  c = a.config

  -- what the first call is lent, the lines where it is accepted, and what the second is lent then
  abbrev own : Lent
  own = lent x.input x.lines

  abbrev lines : List Float
  lines = lines_of c (channel_past a) x.input

  abbrev next : measurement.Lent
  next = measurement.lent lines x.energies p

  abbrev turned : ℕ → Given × Channel
  turned n = let f = framed n a own in (joined f.0.lines (second f.0.number c (measurement.lent f.0.lines x.energies p)), f.1)

  -- the combined call, by its number, with the peaks o beside it
  abbrev before : List ℕ → ℕ → Given × Channel
  before o n = aged o (combined.framed n a x)

  -- the combined call's number: the first call's, and where that is 0 the test of the energies' length, which came last
  abbrev fits : ℕ
  fits = cond (not (eqb (length x.energies) (nb c))) 5 0

  abbrev then : ℕ → ℕ
  then zero = fits
  then (suc n) = suc n

  combined_is : combined.number c x ≡ then (number c own)
  combined_is = go (not (valid c)) (not (eqb (length x.input) (nf c))) (not (eqb (length x.lines) (nf c)))
    where
      go : (p q r : Bool) → cond p 1 (cond q 3 (cond r 4 fits)) ≡ then (cond p 1 (cond q 3 (cond r 4 0)))
      go true q r = refl
      go false true r = refl
      go false false true = refl
      go false false false = refl

  old_is : (o : List ℕ) → old a x o ≡ before o (then (number c own))
  unfolding combined.frames
  old_is o = ap (before o) combined_is

  -- where the first call is accepted, the second's configuration and lines are as they have to be
  abbrev last : ℕ
  last = cond (ltb (first passes6 lines) (length lines)) 6 0

  second-number : number c own ≡ 0 → measurement.number c next ≡ cond (not (eqb (length x.energies) (nb c))) 5 (cond (not (eqb (length p) (nb c))) 5 last)
  unfolding lines_of
  second-number e =
      let v = (passed c own e).0 in
      rw (is_true (valid c) v, eq-eqb (length lines) (nf c) (length-mdct c v (time_buffer c (channel_past a) x.input)))

  in_turn_lem : (in_turn a x p).0.number ≡ 0 → in_turn a x p ≡ old a x (peaks_of c lines)
  unfolding frames
  in_turn_lem h = go (number c own) h ∙ sym (old_is (peaks_of c lines))
    where
      go : (n : ℕ) → (turned n).0.number ≡ 0 → turned n ≡ before (peaks_of c lines) (then n)
      go zero h =
          let e = sym (tells c next) ∙ h in
          ap (λ (m : measurement.Given). (joined lines m, (framed 0 a own).1)) (by_number c next 0 e)
          ∙ ap (before (peaks_of c lines)) (sym (ap (λ (b : Bool). cond (not b) 5 0) (eq-eqb _ _ (verdicts.passed c next e).energies_is)))
      go (suc n) h = absurd (omega arith)

  first_refused : ((frames a own).0.number ≡ 0 → ⊥) → in_turn a x p ≡ old a x p
  unfolding frames
  first_refused h = go (number c own) h ∙ sym (old_is p)
    where
      go : (n : ℕ) → ((framed n a own).0.number ≡ 0 → ⊥) → turned n ≡ before p (then n)
      go zero h = absurd (h refl)
      go (suc n) h = refl

  before-number : (n : ℕ) → (before p n).0.number ≡ n
  before-number zero = refl
  before-number (suc n) = refl

  old-number : (old a x p).0.number ≡ then (number c own)
  old-number = ap (λ (g : Given × Channel). g.0.number) (old_is p) ∙ before-number (then (number c own))

  not_5 : number c own ≡ 5 → ⊥
  not_5 =
      apart_from 5 1 _ (not (valid c)) (λ z. omega arith)
      (apart_from 5 3 _ (not (eqb (length x.input) (nf c))) (λ z. omega arith)
      (apart_from 5 4 0 (not (eqb (length x.lines) (nf c))) (λ z. omega arith) (λ z. omega arith)))

  -- a frame that is accepted, and a measurement of its lines that 5 refuses
  five : number c own ≡ 0 → measurement.number c next ≡ 5 → in_turn a x p ≡ unmeasured a x p
  unfolding frames
  five e h = ap turned e ∙ ap (λ (m : measurement.Given). (joined lines m, (framed 0 a own).1)) (by_number c next 5 h)

  -- a test that gave 5 gives it whatever would come after it
  late : (b : Bool) (m : ℕ) → ◌≡◌ {A = ℕ} (cond b 5 0) 5 → cond b 5 m ≡ 5
  late true m e = refl
  late false m e = absurd (omega arith)

  second_refused : (old a x p).0.number ≡ 5 → in_turn a x p ≡ unmeasured a x p
  second_refused h = go (number c own) refl (sym old-number ∙ h)
    where
      go : (n : ℕ) → number c own ≡ n → then n ≡ 5 → in_turn a x p ≡ unmeasured a x p
      go zero e h = five e (second-number e ∙ late (not (eqb (length x.energies) (nb c))) _ h)
      go (suc n) e h = absurd (not_5 (e ∙ h))

  peaks_refused : (old a x p).0.number ≡ 0 → (length p ≡ nb c → ⊥) → in_turn a x p ≡ unmeasured a x p
  peaks_refused h d = go (number c own) refl (sym old-number ∙ h)
    where
      either : (b : Bool) → ◌≡◌ {A = ℕ} (cond b 5 5) 5
      either true = refl
      either false = refl

      go : (n : ℕ) → number c own ≡ n → then n ≡ 0 → in_turn a x p ≡ unmeasured a x p
      go zero e h = five e (second-number e ∙ ap (λ (b : Bool). cond (not (eqb (length x.energies) (nb c))) 5 (cond (not b) 5 last)) (ne_eqb (length p) (nb c) d) ∙ either (not (eqb (length x.energies) (nb c))))
      go (suc n) e h = absurd (omega arith)

  accepts_alike : Each Sample a.samples → Each Sample x.input → length p ≡ nb c → (in_turn a x p).0.number ≡ (old a x p).0.number
  unfolding frames
  accepts_alike s i l = go (number c own) refl ∙ sym old-number
    where
      go : (n : ℕ) → number c own ≡ n → (turned n).0.number ≡ then n
      go zero e =
          tells c next
          ∙ second-number e
          ∙ ap₂ (λ (b d : Bool). cond (not (eqb (length x.energies) (nb c))) 5 (cond (not b) 5 (cond d 6 0))) (eq-eqb (length p) (nb c) l) (passing lines (pass_each a (passed c own e).0 s x.input i))
      go (suc n) e = refl

  -- what an accepted pair gives, by its lines
  taken : (in_turn a x p).0.number ≡ 0 → (number c own ≡ 0) × ((in_turn a x p).0 ≡ paired c (frames a own).0.lines)
  unfolding frames
  taken h = go (number c own) h
    where
      go : (n : ℕ) → (turned n).0.number ≡ 0 → (n ≡ 0) × ((turned n).0 ≡ paired c (framed n a own).0.lines)
      go zero h = (refl, ap (joined lines) (by_number c next 0 (sym (tells c next) ∙ h)))
      go (suc n) h = absurd (omega arith)

is_0 : (n : ℕ) → n ≡ 0 → T (eqb n 0)
is_0 n e = subst (λ (m : ℕ). T (eqb m 0)) (sym e) tt

-- THE STATEMENT
pub apart : Apart
unfolding measures row rows half edges edge_rows first passes6 tab energies_of energies band_of energy share flag_of exceeds total of_bits of_fields odd count_trailing_zeros units round sum add mul div of_int lt
apart =
    record {
      in_turn_lem = in_turn_lem;
      lines_pass = accepted Pass pass_each;
      lines_pass_after = from_clear Pass (accepted Pass pass_each);
      never_6 = accepted Never6 (λ a v s x i e p. never_6 a.config (lines_of a.config (channel_past a) x) e p (pass_each a v s x i));
      accepts_alike = λ a s x i p l. accepts_alike a x p s i l;
      first_refused = first_refused;
      second_refused = second_refused;
      peaks_refused = peaks_refused;
      by_definition = λ c a e qs x p n.
          let d = after analysis a qs in
          let r = recall analysis (fresh c) qs in
          let t = taken d x p n in
          let same = configured analysis lawful c a e qs in
          let zero_is = ap (λ (m : ℕ). number m (own d x p)) (sym same) ∙ t.0 in
          let gives_0 = analysis_demand3.by_definition c a e qs (own d x p) ∙ ap (λ (m : ℕ). gives analysis m r.config r.before (own d x p)) zero_is in
          t.1 ∙ ap₂ paired same (ap (λ (g : frame.Given). g.lines) gives_0);
      agreement = λ a b e f g o s t qs rs r x y p q i m n.
          let h = analysis_demand3.agreement a b e f g o s t qs rs r in
          let tx = taken (after analysis a (call f ∷ qs)) x p m in
          let ty = taken (after analysis b (call g ∷ rs)) y q n in
          tx.1 ∙ ap₂ paired h.configs (ap (λ (g : frame.Given). g.lines) (h.answers _ _ i (is_0 _ tx.0) (is_0 _ ty.0))) ∙ sym ty.1;
      at_the_bound = refl;
      above_it = refl;
      tested_last = refl;
      own_flag = refl;
    }
