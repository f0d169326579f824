-- The numbers of a plan. Assumes nothing.
use mathlib.Core.Path.{◌≡◌, refl, sym, ap, ◌∙◌, subst}
use mathlib.Core.Bool.{Bool, true, false, ◌&&◌}
use mathlib.Core.List.{List, [], ◌∷◌}
use Prim.Native.Nat.{ℕ, zero, suc, ◌+◌, ◌*◌, ◌-◌, ◌<◌, ◌≤◌}
use native.Mathlib.Nat.{mul-le-mul_right, mul_comm, mul_assoc, suc-mul, mul-suc}
use native.Mathlib.Omega.{arith}
use lib.Dec.{T, leb, eqb, leb→le, eqb→eq}
use lib.ListN.{length, get_or, take, drop}
use lib.Seq.{take_all}
use Rattle.kf_work.specs.Work.{span, planned}
use Rattle.kf_work.specs.Packed.{fives}

-- a radix above the innermost stage is 2, 3 or 4
pub by_radix : (P : ℕ → Type 0) → P 2 → P 3 → P 4 → (p : ℕ) → 2 ≤ p → p ≤ 4 → P p
by_radix P p2 p3 p4 zero l h = absurd (omega arith)
by_radix P p2 p3 p4 (suc zero) l h = absurd (omega arith)
by_radix P p2 p3 p4 (suc (suc zero)) l h = p2
by_radix P p2 p3 p4 (suc (suc (suc zero))) l h = p3
by_radix P p2 p3 p4 (suc (suc (suc (suc zero)))) l h = p4
by_radix P p2 p3 p4 (suc (suc (suc (suc (suc p))))) l h = absurd (omega arith)

-- the numbers of a stage whose radix is known
pub at_radix : (p q m a b c d : ℕ) → p ≡ q → m * p ≤ 1 + a → m * p ≤ 1 + b → m * p ≤ c → m * p ≤ d → (m * q ≤ 1 + a) × (m * q ≤ 1 + b) × (m * q ≤ c) × (m * q ≤ d)
at_radix p q m a b c d e ha hb hc hd = rw (← e) (ha, hb, hc, hd)

pub and_l : (a b : Bool) → T (a && b) → T a
and_l true b h = tt
and_l false b h = absurd h

pub and_r : (a b : Bool) → T (a && b) → T b
and_r true b h = h
and_r false b h = absurd h

-- a plan with its first radix and inner length, and what is left
pub record Split (ps : List ℕ) (p m : ℕ) (rest : List ℕ) : Type 0 where
  pub is : ps ≡ p ∷ m ∷ rest
  pub at_least : 2 ≤ p
  pub at_most : p ≤ 5
  pub inner : m ≡ span rest
  pub rest-planned : T (planned rest)

pub split : (p m : ℕ) (ps : List ℕ) → T (planned (p ∷ m ∷ ps)) → Split (p ∷ m ∷ ps) p m ps
unfolding planned
split p m ps h =
    let h1 = and_r (leb 2 p) (leb p 5 && (eqb m (span ps) && planned ps)) h in
    let h2 = and_r (leb p 5) (eqb m (span ps) && planned ps) h1 in record {
      is = refl;
      at_least = leb→le 2 p (and_l (leb 2 p) (leb p 5 && (eqb m (span ps) && planned ps)) h);
      at_most = leb→le p 5 (and_l (leb p 5) (eqb m (span ps) && planned ps) h1);
      inner = eqb→eq m (span ps) (and_l (eqb m (span ps)) (planned ps) h2);
      rest-planned = and_r (eqb m (span ps)) (planned ps) h2;
    }

-- nothing is a plan of 1, and any other plan is of more, its inner length being less
pub span_positive : (ps : List ℕ) → T (planned ps) → 0 < span ps
unfolding planned
span_positive [] h = omega arith
span_positive (p ∷ []) h = absurd h
span_positive (p ∷ m ∷ ps) h =
    let s = split p m ps h in
    omega (arith, span_positive ps s.rest-planned, mul-le-mul_right m s.at_least, s.inner)

-- what is left of a plan, as the part of a slice that it is lent as
abbrev pub rest_of : List ℕ → List ℕ
rest_of ps = take (length ps - 2) (drop 2 ps)

pub plan-cons : (ps : List ℕ) → T (planned ps) → 0 < length ps → Split ps (get_or ps 0 0) (get_or ps 1 0) (rest_of ps)
unfolding planned
plan-cons [] h l = absurd (omega arith)
plan-cons (p ∷ []) h l = absurd h
plan-cons (p ∷ m ∷ ps) h l =
    let all : rest_of (p ∷ m ∷ ps) ≡ ps = take_all (length (p ∷ m ∷ ps) - 2) ps (omega arith) in
    subst (λ (r : List ℕ). Split (p ∷ m ∷ ps) p m r) (sym all) (split p m ps h)

module _ (ps : List ℕ) (p m : ℕ) (rest : List ℕ) (sp : Split ps p m rest) where
  pub whole : p * m ≡ span ps
  whole = sym (ap span sp.is)

  pub inner_positive : 0 < m
  inner_positive = subst (λ (k : ℕ). 0 < k) (sym sp.inner) (span_positive rest sp.rest-planned)

  -- a stage's twiddles, and those of the rest
  pub table_nums : m * (p - 1) + m ≡ span ps
  table_nums =
      let e : suc (p - 1) ≡ p = omega (arith, sp.at_least) in
      omega (arith, mul-suc m (p - 1), ap (λ (k : ℕ). m * k) e, mul_comm m p, whole)

  -- the numbers of the q-th sub-transform
  pub sub_nums : (s o q : ℕ) → o < s → q < p → (q * m + m ≤ span ps) × (span rest * (s * p) ≡ span ps * s) × (s * p ≤ span ps * s) × (o + q * s < s * p)
  sub_nums s o q ho hq =
      let e : m * (s * p) ≡ span ps * s = mul_comm m (s * p) ∙ mul_assoc s p m ∙ ap (λ (k : ℕ). s * k) whole ∙ mul_comm s (span ps) in (
        omega (arith, mul-le-mul_right m hq, suc-mul q m, whole),
        ap (λ (k : ℕ). k * (s * p)) (sym sp.inner) ∙ e,
        omega (arith, mul-le-mul_right (s * p) inner_positive, e),
        omega (arith, mul-le-mul_right s hq, suc-mul q s, mul_comm s p),
      )

-- What is below a stage: an innermost stage, and then the inner length is 5, or a stage with others below it, and then it is another.
pub record Below (rest : List ℕ) : Type 0 where
  pub innermost : span rest ≡ 5 → rest ≡ 5 ∷ 1 ∷ []
  pub others : (span rest ≡ 5 → ⊥) → (2 < length rest) × (get_or rest 1 0 < span rest)

below : (rest : List ℕ) → T (planned rest) → T (fives rest) → Below rest
unfolding planned fives
below [] h v = absurd v
below (p ∷ []) h v = absurd h
below (p ∷ m ∷ []) h v =
    let s = split p m [] h in
    record { innermost = λ e. rw (eqb→eq p 5 v, s.inner); others = λ e. absurd (e (rw (eqb→eq p 5 v, s.inner))) }
below (p ∷ m ∷ r ∷ ps) h v =
    let s = split p m (r ∷ ps) h in
    record {
      innermost = λ e. absurd (no_fifth p m s.at_least (leb→le p 4 (and_l (leb p 4) (fives (r ∷ ps)) v)) e);
      others = λ e. (omega arith, omega (arith, span_positive (r ∷ ps) s.rest-planned, mul-le-mul_right m s.at_least, s.inner));
    }
  where
    no_fifth : (p m : ℕ) → 2 ≤ p → p ≤ 4 → p * m ≡ 5 → ⊥
    no_fifth p m = by_radix (λ p. p * m ≡ 5 → ⊥) (λ e. omega arith) (λ e. omega arith) (λ e. omega arith) p

-- of a plan that `kf_work` takes
pub record Taken (ps : List ℕ) (p : ℕ) (rest : List ℕ) : Type 0 where
  pub low : p ≤ 4
  pub rest-fives : T (fives rest)
  pub rest_below : Below rest

pub taken : (ps : List ℕ) → T (planned ps) → T (fives ps) → 2 < length ps → Taken ps (get_or ps 0 0) (rest_of ps)
unfolding planned fives
taken [] h v l = absurd v
taken (p ∷ []) h v l = absurd h
taken (p ∷ m ∷ []) h v l = absurd (omega arith)
taken (p ∷ m ∷ r ∷ ps) h v l =
    let all : rest_of (p ∷ m ∷ r ∷ ps) ≡ r ∷ ps = take_all (length (p ∷ m ∷ r ∷ ps) - 2) (r ∷ ps) (omega arith) in
    let few = and_r (leb p 4) (fives (r ∷ ps)) v in
    subst (λ (l : List ℕ). Taken (p ∷ m ∷ r ∷ ps) p l) (sym all)
    (record { low = leb→le p 4 (and_l (leb p 4) (fives (r ∷ ps)) v); rest-fives = few; rest_below = below (r ∷ ps) (split p m (r ∷ ps) h).rest-planned few })
