-- The plan of each accepted size, by one computed test over the sizes, and the outputs as lists, from their places. Assumes nothing.
use mathlib.Core.Path.{◌≡◌, ap, ◌∙◌, fun_ext}
use mathlib.Core.Bool.{Bool, ◌&&◌}
use mathlib.Core.List.{List}
use Prim.Native.Nat.{ℕ, ◌<◌}
use lib.Dec.{T, ltb, eqb, ltb→lt, eqb→eq}
use lib.Ieee.{Float, nan}
use lib.Ieee.Fits.{and_l, and_r}
use lib.ListN.{length}
use Rattle.laws.proofs.Lists.{is_tab}
use Rattle.laws.proofs.Table.{every}
use Rattle.config.specs.Tables.{rows}
use Rattle.config.specs.Config.{row, half, among, fft_sizes}
use Rattle.config.proofs.Among.{at-among}
use Rattle.complex.specs.declared.Complex.{Complex}
use Rattle.complex.specs.Complex.{at}
use Rattle.kf_work.specs.Work.{plan, span, planned, within, spectrum, BothParts}
use Rattle.kf_work.specs.Packed.{fives, packed_work, packed_spectrum, Packed}
use Rattle.kf_work.specs.Sized.{Sized, AllSized}
use Rattle.kf_work.proofs.Spread.{within-lt}
use Rattle.kf_work.proofs.Packed.{packed_work_lem}

abbrev good : ℕ → Bool
good n = planned (plan n) && (fives (plan n) && (ltb 2 (length (plan n)) && eqb (span (plan n)) n))

test : T (every (λ k n. good n) 0 fft_sizes)
unfolding fft_sizes half row rows plan planned fives
test = tt

pub sized : AllSized
sized n s =
    let t1 : T (good n) = at-among good fft_sizes test n s in
    let t2 = and_r (planned (plan n)) _ t1 in
    let t3 = and_r (fives (plan n)) _ t2 in
    record {
      plan_radixes = and_l (planned (plan n)) _ t1;
      plan_fives = and_l (fives (plan n)) _ t2;
      stages = ltb→lt 2 (length (plan n)) (and_l (ltb 2 (length (plan n))) _ t3);
      whole = eqb→eq (span (plan n)) n (and_r (ltb 2 (length (plan n))) _ t3);
    }

-- lists whose places are those of f
pub are_lists : (n : ℕ) (f g : ℕ → Complex) (re im : List Float) → length re ≡ n → length im ≡ n → at re im ≡ within n f g
    → BothParts n f re im
are_lists n f g re im er ei e =
    let each : (k : ℕ) → k < n → at re im k ≡ f k = λ k l. ap (λ (c : ℕ → Complex). c k) e ∙ within-lt n f g k l in
    (is_tab nan re n _ er (λ k l. ap (λ (z : Complex). z.r) (each k l)), is_tab nan im n _ ei (λ k l. ap (λ (z : Complex). z.i) (each k l)))

-- the transform by a plan that is lent
pub by_plan : (n : ℕ) → Sized n → (u x g : ℕ → Complex) (inverse : Bool) (ps : List ℕ) (re im : List Float) → ps ≡ plan n → length re ≡ n → length im ≡ n
    → at re im ≡ within (span ps) (packed_work u inverse x ps 1 0) g → BothParts n (packed_spectrum u inverse n x) re im
unfolding packed_spectrum
by_plan n s u x g inverse ps re im e er ei h = are_lists n (packed_spectrum u inverse n x) g re im er ei (rw (e, s.whole) at h)

-- with a table that has the twiddles t packed, it is the transform with t
pub unpacked : (n : ℕ) → T (among fft_sizes n) → (t u x : ℕ → Complex) (inverse : Bool) → Packed t (plan n) 1 u → packed_spectrum u inverse n x ≡ spectrum t inverse n x
unfolding packed_spectrum spectrum
unpacked n k t u x inverse pk =
    let s = sized n k in
    fun_ext (packed_work_lem t u x inverse (plan n) 1 0 s.plan_radixes s.plan_fives pk)
