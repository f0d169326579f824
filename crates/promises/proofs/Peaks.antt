-- Document 02 §12: the peaks of an accepted measurement, and what a measurement gives beside them. Assumes nothing.
use Prim.Native.Nat.{ℕ, zero, suc, ◌+◌, ◌-◌, ◌≤◌, ◌<◌}
use native.Mathlib.Omega.{arith}
use mathlib.Core.Path.{◌≡◌, refl, sym, ap, subst, ◌∙◌}
use mathlib.Core.Bool.{Bool, true, false, not, cond, true≢false}
use mathlib.Core.List.{List}
use lib.Dec.{T, eqb, ltb}
use lib.ListN.{length, get_or}
use lib.Ieee.{Float, nan, of_bits, of_fields, odd, units, round, mul, lt}
use lib.Count.{count_trailing_zeros}
use lib.Ieee.Bits.{is_true}
use borrow.Author.Tests.{eq-eqb, ne_eqb, ltb-false}
use Rattle.laws.specs.Lists.{tab, first}
use Rattle.laws.specs.Passes.{passes6, ranked}
use Rattle.laws.specs.Greatest.{First, best}
use Rattle.laws.proofs.Lists.{length-tab, get_or-tab, length-map, get_or-map, first-le, first_all}
use Rattle.laws.proofs.Order.{plus-ranked}
use Rattle.laws.proofs.Greatest.{best-first, best-most, alone}
use Rattle.config.specs.Tables.{rows, edge_rows}
use Rattle.config.specs.Config.{valid, row, nf, nb, edges}
use Rattle.config.proofs.Sound.{sound}
use Rattle.measurement_steps.specs.Energy.{band_of}
use Rattle.measurement_steps.specs.Peak.{square, squares, peak, peak_of, peaks}
use Rattle.measurement_steps.proofs.Sums.{stretch}
use Rattle.measurement.specs.Measurement as measurement
use Rattle.measurement.specs.Measurement.{Lent, peaks_of, refused_by, measures}
use Rattle.measurement.proofs.Verdicts as verdicts
use Rattle.measurement.proofs.Verdicts.{tells, by_number}
use Rattle.bounds.proofs.Bound.{sized}
use Rattle.bounds.proofs.Energies.{square-plus}
use Rattle.bounds.proofs.Samples.{six-within}
use Rattle.promises.specs.Bare as bare
use Rattle.promises.specs.Peaks.{product, InBand, Peak, unpeaked, without, tested, Peaks}

-- ---- products of lines that pass 6 can be ranked
square-ranked : (x : Float) → T (passes6 x) → T (ranked (square x))
square-ranked x h = plus-ranked (square x) (square-plus x (sized 60 x (six-within x h)))

-- ---- band b of lines that pass 6
module _ (c : ℕ) (v : T (valid c)) (l : List Float) (long : length l ≡ nf c) (pass : (k : ℕ) → k < length l → T (passes6 (get_or l k nan))) (b : ℕ) (inside : b < nb c) where
  abbrev from : ℕ
  from = get_or (edges c) b 0

  abbrev to : ℕ
  to = get_or (edges c) (b + 1) 0

  abbrev own : List Float
  own = band_of (edges c) l b

  -- its edges lie within the frame, and it has a line
  lies : (from < to) × (to ≤ length l)
  lies = let s = sound c v in let r = s.rising b inside in (r.0, omega (arith, r.1, s.ne_le))

  own_is : own ≡ tab (to - from) (λ k. get_or l (from + k) nan)
  unfolding band_of
  own_is = stretch (to - from) from l (omega (arith, lies))

  width : length (squares own) ≡ to - from
  width = length-map square own ∙ ap length own_is ∙ length-tab (to - from) _

  -- the products ranked are those of the frame's lines
  ranked_is : (k : ℕ) → k < to - from → get_or (squares own) k nan ≡ product l (from + k)
  ranked_is k h =
      get_or-map square own k nan nan (omega (arith, ap length own_is, length-tab (to - from) (λ k. get_or l (from + k) nan)))
      ∙ ap (λ (m : List Float). square (get_or m k nan)) own_is
      ∙ ap square (get_or-tab (to - from) _ nan k h)

  each-ranked : (k : ℕ) → k < length (squares own) → T (ranked (get_or (squares own) k nan))
  each-ranked k h =
      let i : k < to - from = omega (arith, width) in
      subst (λ (x : Float). T (ranked x)) (sym (ranked_is k i)) (square-ranked _ (pass (from + k) (omega (arith, lies))))

  top : peak own ≡ best (squares own) (length (squares own))
  unfolding peak
  top = ap (best (squares own)) (sym (length-map square own))

  pub in_words : First (squares own) (peak own)
  in_words = subst (First (squares own)) (sym top) (best-first (squares own) each-ranked (omega (arith, width, lies)))

  -- by places of the frame
  in_frame : (k : ℕ) → InBand c b k → product l k ≡ get_or (squares own) (k - from) nan
  in_frame k h =
      let e : from + (k - from) ≡ k = omega arith in
      sym (ranked_is (k - from) (omega arith) ∙ ap (product l) e)

  pub peaked : Peak c l b (peak_of (edges c) l b)
  peaked =
      let f = in_words in
      let w = width in
      let mine : InBand c b (from + peak own) = (omega arith, omega (arith, w, f.inside)) in
      let place : from + peak own - from ≡ peak own = omega arith in
      let high : product l (from + peak own) ≡ get_or (squares own) (peak own) nan = in_frame (from + peak own) mine ∙ ap (λ (k : ℕ). get_or (squares own) k nan) place in
      let most : (k : ℕ) → k < length (squares own) → lt (get_or (squares own) (peak own) nan) (get_or (squares own) k nan) ≡ false =
      subst (λ (m : ℕ). (k : ℕ) → k < length (squares own) → lt (get_or (squares own) m nan) (get_or (squares own) k nan) ≡ false) (sym top) (best-most (squares own) each-ranked (omega (arith, w, lies))) in
      record {
        inside = mine;
        before = λ k i h. subst T (λ j. lt (sym (in_frame k i) j) (sym high j)) (f.before (k - from) (omega arith));
        most = λ k i. (λ j. lt (high j) (in_frame k i j)) ∙ most (k - from) (omega (arith, w));
      }

only : (c : ℕ) (l : List Float) (b p q : ℕ) → Peak c l b p → Peak c l b q → p ≡ q
only c l b p q = alone {P = Peak c l b} (λ p q f g h. true≢false (sym (is_true (lt (product l p) (product l q)) (g.before p f.inside h)) ∙ f.most q g.inside))

-- ---- a call by its number, beside the call of before
as_before : (c : ℕ) (x : Lent) → length x.peaks ≡ nb c → without (measures c x) ≡ bare.measures c (unpeaked x)
unfolding measures bare.measures
as_before c x e = go (measurement.number c x) ∙ ap (λ (n : ℕ). bare.measured n c (unpeaked x)) same
  where
    same : measurement.number c x ≡ bare.number c (unpeaked x)
    same = rw (eq-eqb (length x.peaks) (nb c) e)

    go : (n : ℕ) → without (measurement.measured n c x) ≡ bare.measured n c (unpeaked x)
    go zero = refl
    go (suc n) = refl

unfit : (c : ℕ) (x : Lent) → (length x.peaks ≡ nb c → ⊥) → measures c x ≡ refused_by (tested (bare.number c (unpeaked x))) 0 x
unfit c x d =
    let p = not (valid c) in
    let q = not (eqb (length x.lines) (nf c)) in
    let r = not (eqb (length x.energies) (nb c)) in
    by_number c x (cond p 1 (cond q 3 (cond r 5 5))) (rw (ne_eqb (length x.peaks) (nb c) d))
    ∙ go p q r (ltb (first passes6 x.lines) (length x.lines))
  where
    go : (p q r s : Bool) → measurement.measured (cond p 1 (cond q 3 (cond r 5 5))) c x ≡ refused_by (tested (cond p 1 (cond q 3 (cond r 5 (cond s 6 0))))) 0 x
    go true q r s = refl
    go false true r s = refl
    go false false true s = refl
    go false false false true = refl
    go false false false false = refl

untouched : (c : ℕ) (x : Lent) → ((measures c x).number ≡ 0 → ⊥) → ((measures c x).energies ≡ x.energies) × ((measures c x).peaks ≡ x.peaks)
unfolding measures
untouched c x h = go (measurement.number c x) h
  where
    go : (n : ℕ) → ((measurement.measured n c x).number ≡ 0 → ⊥) → ((measurement.measured n c x).energies ≡ x.energies) × ((measurement.measured n c x).peaks ≡ x.peaks)
    go zero h = absurd (h refl)
    go (suc n) h = (refl, refl)

-- ---- an accepted call
module _ (c : ℕ) (x : Lent) (h : (measures c x).number ≡ 0) where
  accepted : measurement.number c x ≡ 0
  accepted = sym (tells c x) ∙ h

  gives : (measures c x).peaks ≡ peaks_of c x.lines
  gives = ap (λ (g : measurement.Given). g.peaks) (by_number c x 0 accepted)

  ok : verdicts.Passed c x
  ok = verdicts.passed c x accepted

  pass_6 : (k : ℕ) → k < length x.lines → T (passes6 (get_or x.lines k nan))
  pass_6 k i =
      let p = ok in
      let e = rw (is_true (valid c) p.is_valid, eq-eqb _ _ p.lines_is, eq-eqb _ _ p.energies_is, eq-eqb _ _ p.peaks_is) at accepted in
      let done = last (ltb (first passes6 x.lines) (length x.lines)) e in
      let whole : first passes6 x.lines ≡ length x.lines = omega (arith, ltb-false (first passes6 x.lines) (length x.lines) done, first-le passes6 x.lines) in
      subst T (sym (first_all passes6 x.lines nan whole k i)) tt
    where
      last : (b : Bool) → ◌≡◌ {A = ℕ} (cond b 6 0) 0 → b ≡ false
      last true e = absurd (omega arith)
      last false e = refl

  count : length (measures c x).peaks ≡ nb c
  unfolding peaks_of peaks
  count = ap length gives ∙ length-tab (nb c) _

  module _ (b : ℕ) (i : b < nb c) where
    is_peak : get_or (measures c x).peaks b 0 ≡ peak_of (edges c) x.lines b
    unfolding peaks_of peaks
    is_peak = ap (λ (l : List ℕ). get_or l b 0) gives ∙ get_or-tab (nb c) _ 0 b i

    each : Peak c x.lines b (get_or (measures c x).peaks b 0)
    each = subst (Peak c x.lines b) (sym is_peak) (peaked c ok.is_valid x.lines ok.lines_is pass_6 b i)

    words : First (squares (band_of (edges c) x.lines b)) (peak (band_of (edges c) x.lines b)) × (get_or (measures c x).peaks b 0 ≡ peak_of (edges c) x.lines b)
    words = (in_words c ok.is_valid x.lines ok.lines_is pass_6 b i, is_peak)

-- THE STATEMENT
pub peaked_measurements : Peaks
unfolding measures row rows edges edge_rows first passes6 tab peaks_of peaks peak best band_of of_bits of_fields odd count_trailing_zeros units round mul lt
peaked_measurements =
    record {
      count = count;
      each = each;
      only = only;
      in_words = words;
      as_before = as_before;
      unfit = unfit;
      untouched = untouched;
      second = refl;
      twins = refl;
      at_the_bound = refl;
      zeros = refl;
      minus_zeros = refl;
      vanishing = refl;
      subnormal = refl;
      short = refl;
      long = refl;
      empty = refl;
    }
