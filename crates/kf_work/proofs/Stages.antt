-- A stage over sub-transforms that are done, whatever they are: w o k is place k of the sub-transform that begins at place o of the input. Assumes nothing.
use mathlib.Core.Path.{◌≡◌, ap, ap₂, ◌∙◌, sym, fun_ext}
use mathlib.Core.Bool.{Bool}
use mathlib.Core.List.{List}
use Prim.Native.Nat.{ℕ, ◌+◌, ◌-◌, ◌*◌, ◌/◌, ◌%◌, ◌<◌, ◌≤◌}
use native.Mathlib.Nat.{mul-le-mul_left, mul_comm, mul-suc, mod-lt}
use native.Mathlib.Decide.{dec_lt}
use native.Mathlib.Omega.{arith}
use borrow.Author.Tests.{lt-ltb, le-ltb}
use Rattle.complex.specs.declared.Complex.{Complex}
use Rattle.butterflies.specs.Butterflies.{stage}
use Rattle.butterflies.proofs.Columns.{Local}
use Rattle.columns.specs.Column.{two, three, four}
use Rattle.quads.specs.Radix.{sees2, sees3, sees4}
use Rattle.butterflies.proofs.Local.{local_by}
use Rattle.kf_work.specs.Work.{within, span}
use Rattle.kf_work.specs.Packed.{after, packed_column, packed_work}
use Rattle.kf_work.proofs.Spread.{within-lt, within_ge}
use Rattle.kf_work.proofs.Plan.{by_radix, Split, whole, inner_positive}

-- the sub-transforms of m places each, one after the other
abbrev pub blocks : (ℕ → ℕ → Complex) → ℕ → ℕ → ℕ → ℕ → Complex
blocks w m s o k = w (o + k / m * s) (k % m)

column_local : (u : ℕ → Complex) (inverse : Bool) (p m : ℕ) → 2 ≤ p → p ≤ 4 → Local p m (packed_column u inverse p m)
unfolding packed_column
column_local u inverse p m = by_radix (λ p. Local p m (packed_column u inverse p m)) (local_by 2 m two sees2 u) (local_by 3 m (three (u (3 * m - 2))) (sees3 (u (3 * m - 2))) u) (local_by 4 m (four inverse) (sees4 inverse) u) p

-- a stage looks at its block alone
stage_local : (p m : ℕ) (b : ℕ → (ℕ → Complex) → ℕ → Complex) → Local p m b → 0 < m → (f g : ℕ → Complex) → ((k : ℕ) → k < p * m → f k ≡ g k)
    → (k : ℕ) → k < p * m → stage p m b f k ≡ stage p m b g k
unfolding stage
stage_local p m b loc h f g e k l =
    rw (lt-ltb k (p * m) l)
    (ap (λ (c : ℕ → Complex). c (k / m)) (loc (k % m) _ _ (λ q j. e (k % m + m * q) (inside q j))))
  where
    inside : (q : ℕ) → q < p → k % m + m * q < p * m
    inside q j = omega (arith, mod-lt k h, mul-le-mul_left m j, mul-suc m q, mul_comm m p)

stage_past : (p m : ℕ) (b : ℕ → (ℕ → Complex) → ℕ → Complex) (g : ℕ → Complex) (k : ℕ) → p * m ≤ k → stage p m b g k ≡ g k
unfolding stage
stage_past p m b g k h = rw (le-ltb k (p * m) h)

-- one stage over them
finish : (p m : ℕ) (b : ℕ → (ℕ → Complex) → ℕ → Complex) → Local p m b → 0 < m → (w f g g' : ℕ → Complex)
    → g ≡ within (p * m) w f → g' ≡ stage p m b g → g' ≡ within (p * m) (stage p m b w) f
finish p m b loc h w f g g' before after = fun_ext (λ k. elim (dec_lt k (p * m)) [ yes l ↦ low k l | no n ↦ high k (omega arith) ])
  where
    low : (k : ℕ) → k < p * m → g' k ≡ within (p * m) (stage p m b w) f k
    low k l =
        ap (λ (c : ℕ → Complex). c k) after
        ∙ stage_local p m b loc h g w (λ j i. ap (λ (c : ℕ → Complex). c j) before ∙ within-lt (p * m) w f j i) k l
        ∙ sym (within-lt (p * m) (stage p m b w) f k l)

    high : (k : ℕ) → p * m ≤ k → g' k ≡ within (p * m) (stage p m b w) f k
    high k l =
        ap (λ (c : ℕ → Complex). c k) after
        ∙ stage_past p m b g k l
        ∙ ap (λ (c : ℕ → Complex). c k) before
        ∙ within_ge (p * m) w f k l
        ∙ sym (within_ge (p * m) (stage p m b w) f k l)

-- the transform by a plan, as one stage over the sub-transforms by the rest of it
work_is : (u x : ℕ → Complex) (inverse : Bool) (ps : List ℕ) (p m : ℕ) (rest : List ℕ) (s o : ℕ) → Split ps p m rest
    → packed_work u inverse x ps s o ≡ stage p m (packed_column u inverse p m) (blocks (packed_work (after u p m) inverse x rest (s * p)) m s o)
unfolding packed_work
work_is u x inverse ps p m rest s o sp = ap (λ (l : List ℕ). packed_work u inverse x l s o) sp.is

-- one stage over the sub-transforms is the transform
pub staged : (u x : ℕ → Complex) (inverse : Bool) (ps : List ℕ) (p m : ℕ) (rest : List ℕ) (s o : ℕ) → Split ps p m rest → p ≤ 4 → (f g g' : ℕ → Complex)
    → g ≡ within (span ps) (blocks (packed_work (after u p m) inverse x rest (s * p)) m s o) f → g' ≡ stage p m (packed_column u inverse p m) g
    → g' ≡ within (span ps) (packed_work u inverse x ps s o) f
staged u x inverse ps p m rest s o sp low f g g' before turned =
    let all = whole _ _ _ _ sp in
    rw (work_is u x inverse ps p m rest s o sp, ← all)
    (finish p m (packed_column u inverse p m) (column_local u inverse p m sp.at_least low) (inner_positive _ _ _ _ sp) _ f g g' (rw (← all) at before) turned)

-- what a sub-transform makes, with its length and its table by other names
pub sub_is : (u v x : ℕ → Complex) (inverse : Bool) (rest : List ℕ) (s o n m : ℕ) → n ≡ m → u ≡ v → (f g : ℕ → Complex)
    → g ≡ within n (packed_work u inverse x rest s o) f → g ≡ within m (packed_work v inverse x rest s o) f
sub_is u v x inverse rest s o n m e same f g done = done ∙ ap₂ (λ (k : ℕ) (t : ℕ → Complex). within k (packed_work t inverse x rest s o) f) e same
