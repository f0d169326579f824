-- The innermost stage: five numbers that are copied, turned and written are its five places, and those of a plan of 5. Assumes nothing.
use mathlib.Core.Path.{◌≡◌, refl, sym, ap, ap₂, ◌∙◌, fun_ext}
use mathlib.Core.Bool.{Bool}
use mathlib.Core.List.{List, [], ◌∷◌}
use Prim.Native.Nat.{ℕ, zero, suc, ◌+◌, ◌*◌, ◌-◌, ◌/◌, ◌%◌, ◌<◌, ◌≤◌}
use native.Mathlib.Nat.{mul_comm, mod-one, div-one, mod-lt}
use native.Mathlib.Numerals.{add-one}
use native.Mathlib.Omega.{arith}
use lib.ListN.{length}
use lib.Ieee.{Float}
use borrow.Author.Tests.{lt-ltb}
use borrow.Rule.Slice.PartMut.{mid_of, put_mid}
use Rattle.complex.specs.declared.Complex.{Complex}
use Rattle.complex.specs.Complex.{parts, at, upd}
use Rattle.laws.specs.Lists.{tab}
use Rattle.columns.specs.Column.{col}
use Rattle.quads.specs.Beside.{twist_by, one32, beside5}
use Rattle.quads.specs.Rows.{writes}
use Rattle.quads.specs.Radix.{Sees, sees5}
use Rattle.quads.proofs.Read.{seen, twist_same}
use Rattle.butterflies.specs.Butterflies.{stage}
use Rattle.kf_work.specs.Work.{within, span}
use Rattle.kf_work.specs.Packed.{after, packed_column, packed_work, innermost}
use Rattle.kf_work.proofs.Plan.{Split, whole}
use Rattle.kf_work.proofs.Stages.{blocks, staged}
use Rattle.kf_work.proofs.Parts.{call_done}
use Rattle.kf_work.proofs.Spread.{within_none, within_more, stride_in}

sees_five : (u : ℕ → Complex) → Sees 5 (beside5 u)
unfolding beside5
sees_five u c c' e = let w : ℕ → Complex = λ q. parts one32 (u 0).i in sees5 (u 1) (u 2) (twist_by w c) (twist_by w c') (twist_same w w c c' 5 (λ q l. refl) e)

writes-within : (g v : ℕ → Complex) (n : ℕ) → writes g 0 v n ≡ within n v g
writes-within g v zero = within_none v g
writes-within g v (suc n) =
    let place : 0 + n ≡ n = omega arith in
    ap₂ (λ (f : ℕ → Complex) (k : ℕ). upd f k (v n)) (writes-within g v n) place ∙ within_more n v g ∙ ap (λ (k : ℕ). within k v g) (add-one n)

leaf_done : (u x : ℕ → Complex) (s o : ℕ) (g g' : ℕ → Complex) (c : List Complex) → c ≡ tab 5 (λ q. x (o + q * s))
    → g' ≡ writes g 0 (beside5 u (col c)) 5 → g' ≡ within 5 (innermost u x s o) g
unfolding innermost
leaf_done u x s o g g' c read stored =
    stored
    ∙ ap (λ (v : ℕ → Complex). writes g 0 v 5) (seen 5 (λ q. x (o + q * s)) (beside5 u) (sees_five u) _ read)
    ∙ writes-within g (innermost u x s o) 5

-- one more of the innermost stages below a stage of stride t: the q-th, on the parts from place 5 q on
pub leaf_more : (u x : ℕ → Complex) (s t o q : ℕ) (g₀ : ℕ → Complex) (re im ys zs : List Float) (c : List Complex) → q * 5 ≤ length re → q * 5 ≤ length im
    → at re im ≡ within (q * 5) (blocks (innermost u x s) 5 t o) g₀ → c ≡ tab 5 (λ j. x (o + q * t + j * s))
    → at ys zs ≡ writes (at (mid_of (q * 5) (length re - q * 5) re) (mid_of (q * 5) (length im - q * 5) im)) 0 (beside5 u (col c)) 5
    → at (put_mid (q * 5) (length re - q * 5) re ys) (put_mid (q * 5) (length im - q * 5) im zs) ≡ within ((q + 1) * 5) (blocks (innermost u x s) 5 t o) g₀
leaf_more u x s t o q g₀ re im ys zs c hr hi before read stored =
    call_done (innermost u x s) 5 t o q (omega arith) g₀ re im ys zs hr hi before (leaf_done u x s (o + q * t) _ _ c read stored)

-- it is the transform by the plan that it is
leaf_is : (u x : ℕ → Complex) (inverse : Bool) (s o k : ℕ) → k < 5 → innermost u x s o k ≡ packed_work u inverse x (5 ∷ 1 ∷ []) s o k
unfolding innermost packed_work packed_column stage
leaf_is u x inverse s o k l =
    let at-k : k ≡ k / 1 = sym (div-one k) in
    let each : (q : ℕ) → x (o + q * s) ≡ x (o + (k % 1 + 1 * q) / 1 * s) = λ q.
    let is : q ≡ (k % 1 + 1 * q) / 1 = (let r : q ≡ k % 1 + 1 * q = omega (arith, mod-one k) in r) ∙ sym (div-one (k % 1 + 1 * q)) in
    ap (λ (i : ℕ). x (o + i * s)) is in
    rw (lt-ltb k 5 l) (ap₂ (λ (c : ℕ → Complex) (i : ℕ). beside5 u c i) (fun_ext each) at-k)

-- the numbers of the q-th of p leaves
pub leaf_in : (s p o q n : ℕ) → o < s → q < p → 5 * (s * p) ≤ n → (o + q * s) + 4 * (s * p) < n
leaf_in s p o q n ho hq h =
    let less : o + q * s < p * s = stride_in s p o q (p * s) ho hq (omega arith) in
    omega (arith, mul_comm p s)

-- the innermost stages below a stage are its sub-transforms
leaves_done : (u v x : ℕ → Complex) (inverse : Bool) (rest : List ℕ) (n p m s o : ℕ) → u ≡ v → m ≡ 5 → rest ≡ 5 ∷ 1 ∷ [] → p * m ≡ n → (f g : ℕ → Complex)
    → g ≡ within (p * 5) (blocks (innermost u x (s * p)) 5 s o) f → g ≡ within n (blocks (packed_work v inverse x rest (s * p)) m s o) f
leaves_done u v x inverse rest n p m s o same five is whole f g done =
    rw (← whole, is, five, ← same)
    (done ∙ ap (λ (w : ℕ → Complex). within (p * 5) w f) (fun_ext (λ k. leaf_is u x inverse (s * p) (o + k / 5 * s) (k % 5) (mod-lt k (omega arith)))))

-- one stage over them is the transform
pub leaves_staged : (u v x : ℕ → Complex) (inverse : Bool) (ps : List ℕ) (p m : ℕ) (rest : List ℕ) (s o : ℕ) → Split ps p m rest → p ≤ 4 → v ≡ after u p m → m ≡ 5 → rest ≡ 5 ∷ 1 ∷ []
    → (f g g' : ℕ → Complex) → g ≡ within (p * 5) (blocks (innermost v x (s * p)) 5 s o) f → g' ≡ stage p 5 (packed_column u inverse p 5) g
    → g' ≡ within (span ps) (packed_work u inverse x ps s o) f
leaves_staged u v x inverse ps p m rest s o sp low same five is f g g' done turned =
    staged u x inverse ps p m rest s o sp low f g g' (leaves_done v (after u p m) x inverse rest (span ps) p m s o same five is (whole _ _ _ _ sp) f g done) (rw five turned)
