-- P, each row by computation but `p12_any`. Assumes nothing.
use Prim.Native.Nat.{ℕ}
use mathlib.Core.Path.{◌≡◌, refl, sym, ap, subst, ◌∙◌}
use mathlib.Core.Bool.{Bool, true, false, not, cond}
use mathlib.Core.Option.{some, none-ne-some, some-injective}
use mathlib.Core.List.{List, zip_with}
use lib.Dec.{T, eqb}
use lib.ListN.{length, get_or}
use lib.Ieee.{Float, of_bits, of_int, round, units, odd, neg, add, sub, mul, lt, nan}
use borrow.Author.Tests.{eqb-true}
use Rattle.laws.specs.Lists.{tab, first}
use Rattle.laws.specs.Passes.{passes6, passes7}
use Rattle.config.specs.Config.{valid, nb, row, edges}
use Rattle.config.specs.Tables.{rows, edge_rows}
use Rattle.refusals.specs.Refusals.{bad_config, bad_energies, bad_energy}
use Rattle.kf_work.specs.Work.{plan}
use Rattle.analysis_steps.specs.Buffer.{past_of, buffer_step}
use Rattle.analysis_steps.specs.Fold.{weighed, fold_low, fold_high, folded}
use Rattle.measurement_steps.specs.Energy.{total, exceeds}
use Rattle.measurement.specs.Measurement.{flag_of}
use Rattle.synthesis_steps.specs.Places.{mirrored, unfolded, output, remains}
use Rattle.loudest.specs.declared.Loudest.TheVariants.{Quiet}
use Rattle.laws.specs.Greatest.{First, best}
use Rattle.loudest.specs.Loudest.{products, heard, told, refusal, loudest, loud, silent, paper}
use Rattle.loudest.proofs.Rank.{asked, scanned}
use Rattle.promises.specs.Facts.{Facts}

-- the band told is the scan's
p12_any : (c : ℕ) (l : List Float) (b : ℕ) (p : Float) → (paper (heard c l)).values ≡ some (b, p) → First (products (edges c) l) b × (p ≡ get_or (products (edges c) l) b nan)
unfolding heard loudest
p12_any c l b p = go (valid c) (eqb (length l) (nb c)) (eqb (first passes7 l) (length l)) (eqb (first silent l) (length l)) (λ v. v) refl refl
  where
    ps : List Float
    ps = products (edges c) l

    at : ℕ
    at = best ps (length l)

    same : ◌≡◌ {A = ℕ × Float} (at, get_or ps at nan) (b, p) → First ps at → First ps b × (p ≡ get_or ps b nan)
    same q f =
        let i : at ≡ b = ap (λ (x : ℕ × Float). x.0) q in
        (subst (First ps) i f, sym (ap (λ (x : ℕ × Float). x.1) q) ∙ ap (λ (k : ℕ). get_or ps k nan) i)

    go : (v n q r : Bool) → (T v → T (valid c)) → eqb (length l) (nb c) ≡ n → eqb (first passes7 l) (length l) ≡ q
        → (paper (cond (not v) (refusal bad_config 0) (cond (not n) (refusal bad_energies 0) (cond q (told (cond r Quiet (loud ps at))) (refusal bad_energy (first passes7 l)))))).values ≡ some (b, p)
        → First ps b × (p ≡ get_or ps b nan)
    go false n q r s t u h = absurd (none-ne-some (b, p) h)
    go true false q r s t u h = absurd (none-ne-some (b, p) h)
    go true true false r s t u h = absurd (none-ne-some (b, p) h)
    go true true true true s t u h = absurd (none-ne-some (b, p) h)
    go true true true false s t u h =
        let n : length l ≡ nb c = eqb-true _ _ t in
        let a = asked c l (edges c) (s tt) n refl in
        same (some-injective (at, get_or ps at nan) (b, p) h) (scanned (edges c) l a.2 (eqb-true _ _ u) a.0)

-- THE STATEMENT
pub P : Facts
unfolding plan tab folded fold_low fold_high weighed buffer_step past_of flag_of exceeds total row rows unfolded mirrored output remains zip_with of_bits of_int round units odd neg add sub mul lt passes6 passes7 first heard loudest products best silent edges edge_rows
P =
    record {
      p1 = refl;
      p2 = refl;
      p3 = refl;
      p4 = refl;
      p5 = refl;
      p6 = λ a0 a1 a2 a3 a4 a5 a6 b0 b1 b2 b3. refl;
      p7 = λ m0 m1 m2 t0 t1 t2 t3 t4 t5 t6 t7. refl;
      p7_memory = λ t0 t1 t2 t3 t4 t5 t6 t7. refl;
      p8 = refl;
      p9 = refl;
      p10 = refl;
      p11_passes = refl;
      p11_fails = refl;
      p11_accepted = refl;
      p11_refused = refl;
      p11_index = refl;
      p12 = refl;
      p12_mean = refl;
      p12_broad = refl;
      p12_any = p12_any;
    }
