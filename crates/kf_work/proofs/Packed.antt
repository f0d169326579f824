-- With a packed table a stage makes what it makes with the twiddles that the table has, and so the transform. Assumes nothing.
use mathlib.Core.Path.{◌≡◌, refl, sym, ap, ap₂, ◌∙◌, fun_ext}
use mathlib.Core.Bool.{Bool, cond}
use mathlib.Core.List.{List, [], ◌∷◌}
use Prim.Native.Nat.{ℕ, zero, suc, ◌+◌, ◌*◌, ◌-◌, ◌/◌, ◌%◌, ◌<◌, ◌≤◌}
use native.Mathlib.Nat.{mod-lt, mul-zero, zero-mul, mul-one}
use native.Mathlib.Omega.{arith}
use lib.Dec.{T, leb, ltb, leb→le, eqb→eq}
use Rattle.complex.specs.declared.Complex.{Complex}
use Rattle.complex.specs.Complex.{parts, times}
use Rattle.columns.specs.Column.{three, five}
use Rattle.quads.specs.Beside.{twist_by, beside, one32, beside5}
use Rattle.quads.specs.Radix.{sees2, sees3, sees4, sees5}
use Rattle.butterflies.specs.Butterflies.{stage, twist, column2, column3, column4, column5}
use Rattle.kf_work.specs.Work.{planned, column, work}
use Rattle.kf_work.specs.Packed.{after, packed_column, fives, packed_work, Packed}
use Rattle.kf_work.proofs.Plan.{by_radix, split, and_l, and_r, inner_positive}

stage_alike : (p m : ℕ) (b b' : ℕ → (ℕ → Complex) → ℕ → Complex) → 0 < m → ((j : ℕ) → j < m → (c : ℕ → Complex) → b j c ≡ b' j c)
    → (f : ℕ → Complex) → stage p m b f ≡ stage p m b' f
unfolding stage
stage_alike p m b b' h e f = fun_ext (λ k. ap (λ (c : ℕ → Complex). cond (ltb k (p * m)) (c (k / m)) (f k)) (e (k % m) (mod-lt k h) _))

-- a column twiddled with w, and with t at stride k
twist_alike : (w t : ℕ → Complex) (k p : ℕ) (c : ℕ → Complex) → ((q : ℕ) → suc q < p → w q ≡ t (suc q * k)) → (q : ℕ) → q < p → twist_by w c q ≡ twist t k c q
twist_alike w t k p c e zero l = refl
twist_alike w t k p c e (suc q) l = ap (times (c (suc q))) (e q l)

module _ (t u : ℕ → Complex) (inverse : Bool) (s m j : ℕ) (c : ℕ → Complex) where
  abbrev Alike : ℕ → Type 0
  Alike p = ((q : ℕ) → suc q < p → beside u m j q ≡ t (suc q * (j * s))) → (p ≡ 3 → u (3 * m - 2) ≡ t (s * m)) → packed_column u inverse p m j c ≡ column t inverse s p m j c

  column_alike : (p : ℕ) → 2 ≤ p → p ≤ 4 → Alike p
  unfolding packed_column column column2 column3 column4
  column_alike =
      by_radix Alike (λ e e3. sees2 _ _ (twist_alike (beside u m j) t (j * s) 2 c e))
      (λ e e3. ap (λ (y : Complex). three y (twist_by (beside u m j) c)) (e3 refl) ∙ sees3 (t (s * m)) _ _ (twist_alike (beside u m j) t (j * s) 3 c e))
      (λ e e3. sees4 inverse _ _ (twist_alike (beside u m j) t (j * s) 4 c e))

  innermost_alike : j < 1 → (parts one32 (u 0).i ≡ t 0) × (u 1 ≡ t s) × (u 2 ≡ t (2 * s)) → packed_column u inverse 5 1 j c ≡ column t inverse s 5 1 j c
  unfolding packed_column column beside5 column5
  innermost_alike l e =
      let none : (q : ℕ) → suc q * (j * s) ≡ 0 = λ q. ap (λ (i : ℕ). suc q * (i * s)) {x = j} {y = 0} (omega arith) ∙ ap (λ (i : ℕ). suc q * i) (zero-mul s) ∙ mul-zero (suc q) in
      let one : s * 1 ≡ s = mul-one s in
      ap₂ (λ (y z : Complex). five y z (twist_by (λ q. parts one32 (u 0).i) c)) (e.1 ∙ ap t (sym one)) (e.2 ∙ ap (λ (i : ℕ). t (2 * i)) (sym one))
      ∙ sees5 (t (s * 1)) (t (2 * (s * 1))) _ _ (twist_alike (λ q. parts one32 (u 0).i) t (j * s) 5 c (λ q _. e.0 ∙ ap t (sym (none q))))

pub packed_work_lem : (t u x : ℕ → Complex) (inverse : Bool) (ps : List ℕ) (s o : ℕ) → T (planned ps) → T (fives ps) → Packed t ps s u
    → (k : ℕ) → packed_work u inverse x ps s o k ≡ work t inverse x ps s o k
unfolding planned fives Packed packed_work work
packed_work_lem t u x inverse [] s o h v pk k = absurd v
packed_work_lem t u x inverse (p ∷ []) s o h v pk k = absurd v
packed_work_lem t u x inverse (p ∷ m ∷ []) s o h v pk k =
    let sp = split p m [] h in
    rw (eqb→eq p 5 v, sp.inner) (ap (λ (g : ℕ → Complex). g k) (stage_alike 5 1 _ _ (omega arith) (λ j l c. innermost_alike t u inverse s 1 j c l pk) (λ k. x (o + k / 1 * s))))
packed_work_lem t u x inverse (p ∷ m ∷ r ∷ ps) s o h v pk k =
    let sp = split p m (r ∷ ps) h in
    let low = leb→le p 4 (and_l (leb p 4) (fives (r ∷ ps)) v) in
    ap (λ (f : ℕ → Complex). stage p m (packed_column u inverse p m) f k)
    (fun_ext (λ k. packed_work_lem t (after u p m) x inverse (r ∷ ps) (s * p) (o + k / m * s) sp.rest-planned (and_r (leb p 4) (fives (r ∷ ps)) v) pk.2 (k % m)))
    ∙ ap (λ (g : ℕ → Complex). g k) (stage_alike p m _ _ (inner_positive _ p m (r ∷ ps) sp) (λ j l c. column_alike t u inverse s m j c p sp.at_least low (λ q. pk.0 j q l) pk.1) _)
