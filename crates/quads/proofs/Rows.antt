-- What stands at a place once columns are written part by part, for any number of columns and any order of the parts. Assumes nothing.
use mathlib.Core.Path.{◌≡◌, refl, sym, ap, ap₂, ◌∙◌, fun_ext}
use mathlib.Core.List.{List, [], ◌∷◌}
use Prim.Native.Nat.{ℕ, zero, suc, ◌+◌, ◌*◌, ◌/◌, ◌%◌, ◌<◌, ◌≤◌}
use native.Mathlib.Numerals.{add-one}
use native.Mathlib.Nat.{mul-le-mul_left, mul-suc, not-suc-le-zero, add-mul-mod_self_left, add-mul-div_left, mod-eq_of_lt, div-eq_of_lt, mod-add-div}
use native.Mathlib.Decide.{ℕ_discrete}
use native.Mathlib.Omega.{arith}
use lib.ListN.{length, get_or, set, length-set}
use lib.Ieee.{Float, nan}
use Rattle.complex.specs.declared.Complex.{Complex}
use Rattle.complex.specs.Complex.{parts, upd, at}
use Rattle.complex.proofs.Places.{upd_same, upd_other, put-at}
use Rattle.laws.specs.Lists.{tab}
use Rattle.laws.proofs.Lists.{get_or-tab}
use Rattle.columns.specs.Column.{col}
use Rattle.quads.specs.Rows.{writes, rows, turned, turned_columns, lane}

-- place i + m q: its column and its part
pub col_of : (m i q : ℕ) → i < m → (i + m * q) % m ≡ i
col_of m i q h = add-mul-mod_self_left i m q ∙ mod-eq_of_lt h

pub part_of : (m i q : ℕ) → i < m → (i + m * q) / m ≡ q
part_of m i q h =
    let pos : 0 < m = omega arith in
    add-mul-div_left i q pos ∙ ap (λ (x : ℕ). x + q) (div-eq_of_lt h) ∙ omega arith

module _ (g : ℕ → Complex) (k : ℕ) (v : ℕ → Complex) where
  -- a store of one more place
  pub writes_more : (c j : ℕ) (a b : ℕ → Complex) → j ≡ k + c → a ≡ writes g k v c → b ≡ upd a j (v c) → b ≡ writes g k v (suc c)
  writes_more c j a b e before stored = stored ∙ rw (before, e)

  writes_at : (n c : ℕ) → c < n → writes g k v n (k + c) ≡ v c
  writes_at zero c l = absurd (not-suc-le-zero l)
  writes_at (suc n) c l =
      elim (ℕ_discrete c n) [
        | yes e ↦ upd_same _ _ _ _ (ap (λ (x : ℕ). k + x) e) ∙ ap v (sym e)
        | no ne ↦ upd_other _ _ _ _ (λ e. ne (omega arith)) ∙ writes_at n c (omega arith)
      ]

  writes_off : (n j : ℕ) → ((c : ℕ) → c < n → j ≡ k + c → ⊥) → writes g k v n j ≡ g j
  writes_off zero j off = refl
  writes_off (suc n) j off = upd_other _ _ _ _ (off n (omega arith)) ∙ writes_off n j (λ c l. off c (omega arith))

  pub writes_ext : (w : ℕ → Complex) (n : ℕ) → ((c : ℕ) → c < n → v c ≡ w c) → writes g k v n ≡ writes g k w n
  writes_ext w zero e = refl
  writes_ext w (suc n) e = ap₂ (λ (f : ℕ → Complex) (x : Complex). upd f (k + n) x) (writes_ext w n (λ c l. e c (omega arith))) (e n (omega arith))

-- n columns from i on, written part by part
module _ (n m : ℕ) (g : ℕ → Complex) (i : ℕ) (o : ℕ → ℕ) (v : ℕ → ℕ → Complex) (h : i + n ≤ m) where
  spot : (r c k : ℕ) → c < n → k ≡ i + m * r + c → (k % m ≡ i + c) × (k / m ≡ r)
  spot r c k l e =
      let at-r : k ≡ i + c + m * r = omega arith in
      (ap (λ (x : ℕ). x % m) at-r ∙ col_of m (i + c) r (omega arith), ap (λ (x : ℕ). x / m) at-r ∙ part_of m (i + c) r (omega arith))

  pub rows_at : (p k c q : ℕ) → c < n → k % m ≡ i + c → q < p → k / m ≡ o q → rows n m g i o v p k ≡ v c (k / m)
  rows_at zero k c q l e b s = absurd (not-suc-le-zero b)
  rows_at (suc p) k c q l e b s =
      elim (ℕ_discrete (k / m) (o p)) [
        | yes here ↦
            let place : k ≡ i + m * o p + c = sym (mod-add-div k m) ∙ ap₂ (λ (x y : ℕ). x + m * y) e here ∙ omega arith in
            ap (writes (rows n m g i o v p) (i + m * o p) (λ c. v c (o p)) n) place ∙ writes_at _ _ _ n c l ∙ ap (v c) (sym here)
        | no ne ↦
            writes_off _ _ _ n k (λ c2 l2 e2. ne (spot (o p) c2 k l2 e2).1)
            ∙ rows_at p k c q l e (elim (ℕ_discrete q p) [ yes last ↦ absurd (ne (s ∙ ap o last)) | no lower ↦ omega arith ]) s
      ]

  pub rows_off : (p k : ℕ) → ((c q : ℕ) → c < n → q < p → k % m ≡ i + c → k / m ≡ o q → ⊥) → rows n m g i o v p k ≡ g k
  rows_off zero k off = refl
  rows_off (suc p) k off =
      writes_off _ _ _ n k (λ c l e. off c p l (omega arith) (spot (o p) c k l e).0 (spot (o p) c k l e).1)
      ∙ rows_off p k (λ c q l b. off c q l (omega arith))

-- the numbers x are written
put_done : (g : ℕ → Complex) (k n : ℕ) (w : ℕ → Complex) (x : List Complex) → x ≡ tab n w → writes g k (col x) n ≡ writes g k w n
put_done g k n w x e = writes_ext g k (col x) w n (λ c l. ap (λ (y : List Complex). col y c) e ∙ get_or-tab n w (parts nan nan) c l)

-- a part of any of n columns is in the block
pub part_in : (p m i n r : ℕ) → i + n ≤ m → r < p → i + m * r + n ≤ m * p
part_in p m i n r h l = omega (arith, mul-le-mul_left m l, mul-suc m r)

-- Columns of f from i on, read and turned by b into the p parts of each, in the order o. One more part is written, whatever the radix.
module _ (p m : ℕ) (o : ℕ → ℕ) (b : ℕ → (ℕ → Complex) → ℕ → Complex) (f : ℕ → Complex) where
  abbrev Turned : List Complex → ℕ → Type 0
  Turned A j = A ≡ tab p (λ q. turned m b f j (o q))

  part_of_column : {A : List Complex} (j : ℕ) → Turned A j → (q : ℕ) (d : Complex) → q < p → get_or A q d ≡ turned m b f j (o q)
  part_of_column j e q d l = ap (λ (x : List Complex). get_or x q d) e ∙ get_or-tab p (λ q. turned m b f j (o q)) d q l

  at_first : {A : List Complex} (i : ℕ) → Turned A i → Turned A (i + 0)
  at_first {A} i e = let z : i ≡ i + 0 = omega arith in e ∙ ap (λ (j : ℕ). tab p (λ q. turned m b f j (o q))) z

  -- of four columns
  pub row_more : (i q : ℕ) (d : Complex) {A B C D : List Complex} {g h : ℕ → Complex} {k : ℕ}
      → Turned A i → Turned B (i + 1) → Turned C (i + 2) → Turned D (i + 3) → q < p → k ≡ o q → g ≡ turned_columns 4 q m o b i f
      → h ≡ writes g (i + m * k) (col (get_or A q d ∷ get_or B q d ∷ get_or C q d ∷ get_or D q d ∷ [])) 4 → h ≡ turned_columns 4 (q + 1) m o b i f
  unfolding tab
  row_more i q d {A} {B} {C} {D} ea eb ec ed l place before stored =
      let read : get_or A q d ∷ get_or B q d ∷ get_or C q d ∷ get_or D q d ∷ [] ≡ tab 4 (λ c. turned m b f (i + c) (o q)) =
      λ z. part_of_column (i + 0) (at_first i ea) q d l z ∷ part_of_column (i + 1) eb q d l z ∷ part_of_column (i + 2) ec q d l z ∷ part_of_column (i + 3) ed q d l z ∷ [] in
      stored ∙ rw (before, place) (put_done (turned_columns 4 q m o b i f) (i + m * o q) 4 (λ c. turned m b f (i + c) (o q)) _ read)
      ∙ ap (λ (r : ℕ). turned_columns 4 r m o b i f) (sym (add-one q))

  -- of one
  pub place_more : (i q : ℕ) (d : Complex) {A : List Complex} {g h : ℕ → Complex} {k : ℕ}
      → Turned A i → q < p → k ≡ o q → g ≡ turned_columns 1 q m o b i f → h ≡ upd g (i + m * k) (get_or A q d) → h ≡ turned_columns 1 (q + 1) m o b i f
  place_more i q d {A} ea l place before stored =
      let at-k : i + m * o q ≡ i + m * o q + 0 = omega arith in
      stored ∙ ap₂ (λ (g : ℕ → Complex) (j : ℕ). upd g j (get_or A q d)) before (ap (λ (r : ℕ). i + m * r) place ∙ at-k)
      ∙ ap (λ (x : Complex). upd (turned_columns 1 q m o b i f) (i + m * o q + 0) x) (part_of_column (i + 0) (at_first i ea) q d l)
      ∙ ap (λ (r : ℕ). turned_columns 1 r m o b i f) (sym (add-one q))

-- four neighbouring stores to each list
pub lanes : (re im : List Float) (k : ℕ) (a b c d : Complex) → k + 4 ≤ length re → k + 4 ≤ length im
    → at (lane re k a.r b.r c.r d.r) (lane im k a.i b.i c.i d.i) ≡ writes (at re im) k (col (a ∷ b ∷ c ∷ d ∷ [])) 4
lanes re im k a b c d hr hi =
    let more = writes_more (at re im) k (col (a ∷ b ∷ c ∷ d ∷ [])) in
    let re1 = set re k a.r in
    let im1 = set im k a.i in
    let re2 = set re1 (k + 1) b.r in
    let im2 = set im1 (k + 1) b.i in
    let re3 = set re2 (k + 2) c.r in
    let im3 = set im2 (k + 2) c.i in
    let put : (r i : List Float) (j : ℕ) (x : Complex) → j < k + 4 → length r ≡ length re → length i ≡ length im → at (set r j x.r) (set i j x.i) ≡ upd (at r i) j x =
    λ r i j x l er ei. fun_ext (put-at r i j x (omega arith) (omega arith)) in
    more 3 _ _ _ refl (more 2 _ _ _ refl (more 1 _ _ _ refl (more 0 _ _ _ (omega arith) refl
    (put re im k a (omega arith) refl refl))
    (put re1 im1 (k + 1) b (omega arith) (simp length-set) (simp length-set)))
    (put re2 im2 (k + 2) c (omega arith) (simp length-set) (simp length-set)))
    (put re3 im3 (k + 3) d (omega arith) (simp length-set) (simp length-set))
