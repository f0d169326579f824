-- The running sums of energies: what a loop that adds knows of them, and that a bound which one exceeds is exceeded by all after it. So an early stop answers as the
-- whole sum does. Assumes nothing.
use mathlib.Core.Path.{◌≡◌, refl, sym, ap, ◌∙◌, subst}
use mathlib.Core.Logic.{⊎_elim}
use mathlib.Core.Bool.{Bool, true, false, not, true≢false}
use mathlib.Core.List.{List, [], ◌∷◌}
use Prim.Native.Nat.{ℕ, suc, ◌+◌, ◌-◌, ◌*◌, ◌≤◌, ◌<◌}
use native.Mathlib.Nat.{zero-mul}
use native.Mathlib.Omega.{arith}
use lib.Dec.{T, ltb}
use lib.IntN.{pos}
use lib.ListN.{length, get_or, take, drop, length-drop, take-append-drop}
use lib.Seq.{length-take-le, take_all, get_or-take, get_or-drop}
use lib.Ieee.{Float, nan, inf, fin, binary32, of_bits, add, lt, fits, up, down}
use lib.Ieee.Fits.{add-fits}
use lib.Ieee.Bits.{is_true}
use borrow.Author.Tests.{le-ltb, lt-ltb, ltb-true, ltb-false, not-true, not-false}
use Rattle.laws.specs.Numbers.{zero32}
use Rattle.laws.specs.Lists.{first}
use Rattle.laws.specs.Passes.{passes7}
use Rattle.laws.proofs.Bools.{outcomes, holds}
use Rattle.laws.proofs.Lists.{length-tab, get_or-tab, first-none, first-le, first-before, first_fails, first_below}
use Rattle.laws.proofs.Sign.{Plus}
use Rattle.measurement_steps.specs.Energy.{sum_of, total, exceeds}
use Rattle.measurement_steps.proofs.Sums.{sum_on}
use Rattle.near_nyquist.specs.Sooner.{running, bound, upper_sum, stop}
use Rattle.near_nyquist.proofs.Grows.{grows, beyond, times-plus}

-- ---- by their places
pub length-running : (es : List Float) → length (running es) ≡ length es
unfolding running
length-running es = length-tab (length es) (λ k. total (take (k + 1) es))

pub running-at : (es : List Float) (k : ℕ) → k < length es → get_or (running es) k nan ≡ total (take (k + 1) es)
unfolding running
running-at es k h = get_or-tab (length es) (λ k. total (take (k + 1) es)) nan k h

-- what a search of them finds is no further than their end
pub found_within : (p : Float → Bool) (l : List Float) {k : ℕ} → k ≡ first p (running l) → k ≤ length l
found_within p l e = omega (arith, e, first-le p (running l), length-running l)

-- the test of one that a loop has at hand: s is the sum of the first i + 1
pub tested : (b : Float) (es : List Float) (i : ℕ) (s : Float) (t : Bool) → i < length es → s ≡ total (take (i + 1) es) → lt b s ≡ t → not (lt b (get_or (running es) i nan)) ≡ not t
tested b es i s t h e l = ap not (ap (lt b) (running-at es i h ∙ sym e) ∙ l)

-- ---- sums of energies that pass 7
abbrev pub Pass : List Float → Type 0
Pass l = (k : ℕ) → k < length l → passes7 (get_or l k nan) ≡ true

take_pass : (n : ℕ) (l : List Float) → n ≤ length l → Pass l → Pass (take n l)
take_pass n l fit a k h = let e : length (take n l) ≡ n = length-take-le n l fit in rw (get_or-take n l k nan (omega arith)) (a k (omega arith))

drop_pass : (n : ℕ) (l : List Float) → Pass l → Pass (drop n l)
drop_pass n l a k h = rw (get_or-drop n l k nan) (a (n + k) (omega (arith, length-drop n l)))

-- r is what acc has come to
record Sum (acc r : Float) : Type 0 where
  plus : Plus r
  fits_32 : T (fits binary32 r)
  over : (b : Float) → Plus b → T (lt b acc) → T (lt b r)

summed : (acc : Float) (ys : List Float) → Plus acc → T (fits binary32 acc) → Pass ys → Sum acc (sum_of (λ x. x) acc ys)
summed acc [] p t a = record { plus = p; fits_32 = t; over = λ b q h. h }
summed acc (y ∷ ys) p t a =
    let g = grows acc y p t (holds (a 0 (omega arith))) in
    let s = summed (add binary32 acc y) ys g.plus (add-fits binary32 acc y) (λ k h. a (suc k) (omega arith)) in
    record { plus = s.plus; fits_32 = s.fits_32; over = λ b q h. s.over b q (beyond b q p g h) }

from_zero : (l : List Float) → Pass l → Sum zero32 (total l)
unfolding total of_bits
from_zero l a = summed zero32 l refl (unfold fits in tt) a

-- what the first n of them exceed, all of them do
goes_on : (b : Float) (n : ℕ) (l : List Float) → Plus b → n ≤ length l → Pass l → T (lt b (total (take n l))) → T (lt b (total l))
unfolding total
goes_on b n l q fit a h =
    let s = from_zero (take n l) (take_pass n l fit a) in
    let whole : sum_of (λ x. x) (total (take n l)) (drop n l) ≡ total l = sym (sum_on (λ x. x) zero32 (take n l) (drop n l)) ∙ ap total (take-append-drop n l) in
    subst (λ (x : Float). T (lt b x)) whole ((summed (total (take n l)) (drop n l) s.plus s.fits_32 (drop_pass n l a)).over b q h)

-- nothing that has the sign plus is below zero
not-below : (b : Float) → Plus b → lt b zero32 ≡ false
unfolding lt of_bits
not-below nan p = refl
not-below (inf true) p = absurd (true≢false p)
not-below (inf false) p = refl
not-below (fin true m e) p = absurd (true≢false p)
not-below (fin false m e) p = le-ltb (m * up e * 1) (0 * 1 * down e) (omega (arith, ap (λ (z : ℕ). z * down e) (zero-mul 1) ∙ zero-mul (down e)))

-- so no bound is exceeded by the sum of none
some : (b : Float) (l : List Float) → Plus b → T (lt b (total l)) → 0 < length l
unfolding total
some b [] q h = absurd (true≢false (sym (is_true (lt b zero32) h) ∙ not-below b q))
some b (x ∷ xs) q h = omega arith

-- a sum that does not exceed the bound
abbrev under : Float → Float → Bool
under b s = not (lt b s)

-- THE LAW: one of the running sums exceeds a bound exactly when the last does, which is the sum of all
settled : (b : Float) (l : List Float) → Plus b → Pass l → ltb (first (under b) (running l)) (length (running l)) ≡ lt b (total l)
settled b l q a = ⊎_elim (λ t. stops t ∙ sym t) (λ f. goes f ∙ sym f) (outcomes (lt b (total l)))
  where
    n : ℕ
    n = length l

    last_sum : 0 < n → total (take (n - 1 + 1) l) ≡ total l
    last_sum p = ap total (take_all (n - 1 + 1) l (omega arith))

    stops : lt b (total l) ≡ true → ltb (first (under b) (running l)) (length (running l)) ≡ true
    stops t =
        let p = some b l q (holds t) in
        lt-ltb _ _ (first_below (under b) (running l) nan (n - 1) (omega (arith, length-running l)) (tested b l (n - 1) (total l) true (omega arith) (sym (last_sum p)) t))

    each : lt b (total l) ≡ false → (k : ℕ) → k < length (running l) → not (lt b (get_or (running l) k nan)) ≡ true
    each f k h =
        let u : k < length l = omega (arith, length-running l) in
        ⊎_elim
        (λ t. absurd (true≢false (sym (is_true _ (goes_on b (k + 1) l q (omega arith) a (holds t))) ∙ f)))
        (λ s. tested b l k _ false u refl s)
        (outcomes (lt b (total (take (k + 1) l))))

    goes : lt b (total l) ≡ false → ltb (first (under b) (running l)) (length (running l)) ≡ false
    goes f = let e : length (running l) ≡ first (under b) (running l) = first-none (under b) (running l) nan (each f) in le-ltb (first (under b) (running l)) (length (running l)) (omega arith)

-- ---- at a split of the energies
shifted : (a f m n : ℕ) → a ≤ n → m ≡ n - a → ltb (a + f) n ≡ ltb f m
shifted a f m n h e = ⊎_elim (λ t. let u = ltb-true f m t in lt-ltb (a + f) n (omega arith) ∙ sym t) (λ s. let u = ltb-false f m s in le-ltb (a + f) n (omega arith) ∙ sym s) (outcomes (ltb f m))

module _ (split : ℕ) (es : List Float) (fit : split ≤ length es) where
  length_rest : length (running (drop split es)) ≡ length es - split
  length_rest = length-running (drop split es) ∙ length-drop split es

  -- the band is an upper one, or their end
  pub stop-from : split ≤ stop split es
  unfolding stop
  stop-from = omega arith

  stop_to : stop split es ≤ length es
  unfolding stop
  stop_to = omega (arith, first-le (under (bound split es)) (running (drop split es)), length_rest)

  -- the sum of the upper bands with band b as the last
  at-band : (b : ℕ) → split ≤ b → b < length es → get_or (running (drop split es)) (b - split) nan ≡ upper_sum split es b
  at-band b l h =
      let e : b - split + 1 ≡ b + 1 - split = omega arith in
      running-at (drop split es) (b - split) (omega (arith, length-drop split es)) ∙ ap (λ (n : ℕ). total (take n (drop split es))) e

  -- it exceeds at the band, and at none before it
  pub over : stop split es < length es → T (lt (bound split es) (upper_sum split es (stop split es)))
  unfolding stop
  over h =
      let k = first (under (bound split es)) (running (drop split es)) in
      let e : split + k - split ≡ k = omega arith in
      holds
      (ap (lt (bound split es)) (sym (at-band (split + k) (omega arith) h) ∙ ap (λ (i : ℕ). get_or (running (drop split es)) i nan) e)
      ∙ not-false (lt (bound split es) (get_or (running (drop split es)) k nan)) (first_fails (under (bound split es)) (running (drop split es)) nan (omega (arith, length_rest))))

  pub not-before : (b : ℕ) → split ≤ b → b < stop split es → lt (bound split es) (upper_sum split es b) ≡ false
  unfolding stop
  not-before b l h =
      ap (lt (bound split es)) (sym (at-band b l (omega (arith, stop_to))))
      ∙ not-true _ (first-before (under (bound split es)) (running (drop split es)) nan (b - split) (omega arith))

  bound-plus : Pass es → Plus (bound split es)
  unfolding of_bits
  bound-plus all = times-plus 14 (pos 1) (total (take split es)) (from_zero (take split es) (take_pass split es fit all)).plus

  -- and there is one exactly where the flag is set
  pub as_flagged : Pass es → ltb (stop split es) (length es) ≡ exceeds split es
  unfolding stop exceeds
  as_flagged all = shifted split _ _ (length es) fit length_rest ∙ settled (bound split es) (drop split es) (bound-plus all) (drop_pass split es all)
