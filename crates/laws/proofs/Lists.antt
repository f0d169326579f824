-- Lists by their places. The invariant of a loop that writes place after place is `Filled`, of a search for the first that fails `Searched`.
-- Assumes nothing.
use mathlib.Core.Path.{◌≡◌, refl, sym, ap, ◌∙◌}
use mathlib.Core.Logic.{⊎_elim}
use mathlib.Core.Bool.{Bool, true, false, not, cond, ◌&&◌}
use mathlib.Core.List.{List, [], ◌∷◌, ◌++◌, append-nil, map}
use Prim.Native.Nat.{ℕ, zero, suc, ◌+◌, ◌≤◌, ◌<◌}
use native.Mathlib.Nat.{not-suc-le-zero, le_of_suc-le-suc}
use native.Mathlib.Numerals.{add-one}
use native.Mathlib.Omega.{arith}
use borrow.Author.Count.{below_more}
use borrow.Author.Tests.{eqb-true, eq-eqb, ne_eqb, le-ltb, lt-ltb, not-true, not-false}
use lib.Dec.{eqb, eqb-suc-suc, eqb-zero-suc}
use lib.ListN.{length, get_or, take, drop, set, length-set, replicate, length-replicate, get_or-replicate}
use lib.Seq.{drop-cons, set_at, append_snoc, drop-length, get_or_at, ext_get_or}
use Rattle.std.proofs.lemmas.Bool.Decides.{leb_tells}
use Rattle.std.specs.Prelude.{fold, Some, None, ltb}
use Rattle.std.specs.List.{prefix_len}
use Rattle.laws.specs.Lists.{tab, first, failing}
use Rattle.laws.proofs.Bools.{outcomes}

pub length-tab : {A : Type 0} (n : ℕ) (f : ℕ → A) → length (tab n f) ≡ n
unfolding tab
length-tab zero f = refl
length-tab (suc n) f = ap suc (length-tab n (λ k. f (suc k)))

pub get_or-tab : {A : Type 0} (n : ℕ) (f : ℕ → A) (d : A) (k : ℕ) → k < n → get_or (tab n f) k d ≡ f k
unfolding tab
get_or-tab zero f d k h = absurd (not-suc-le-zero h)
get_or-tab (suc n) f d zero h = refl
get_or-tab (suc n) f d (suc k) h = get_or-tab n (λ k. f (suc k)) d k (le_of_suc-le-suc h)

-- a list whose places are f's is the tab of f
pub is_tab : {A : Type 0} (d : A) (l : List A) (n : ℕ) (f : ℕ → A) → length l ≡ n → ((k : ℕ) → k < n → get_or l k d ≡ f k) → l ≡ tab n f
is_tab d l n f e p = ext_get_or d l (tab n f) (e ∙ sym (length-tab n f)) (λ k h. p k (omega arith) ∙ sym (get_or-tab n f d k (omega arith)))

-- two that agree at each place
pub tab_ext : {A : Type 0} (n : ℕ) (f g : ℕ → A) → ((k : ℕ) → k < n → f k ≡ g k) → tab n f ≡ tab n g
unfolding tab
tab_ext zero f g h = refl
tab_ext (suc n) f g h = λ j. h 0 (omega arith) j ∷ tab_ext n (λ k. f (suc k)) (λ k. g (suc k)) (λ k l. h (suc k) (omega arith)) j

-- one more at the end
pub tab-snoc : {A : Type 0} (n : ℕ) (f : ℕ → A) → tab (suc n) f ≡ tab n f ++ (f n ∷ [])
unfolding tab
tab-snoc zero f = refl
tab-snoc {A} (suc n) f = ap (λ (l : List A). f 0 ∷ l) (tab-snoc n (λ k. f (suc k)))

-- every list is the tab of its places
pub tab_get_or : {A : Type 0} (l : List A) (d : A) → tab (length l) (λ k. get_or l k d) ≡ l
unfolding tab
tab_get_or [] d = refl
tab_get_or {A} (x ∷ xs) d = ap (λ (l : List A). x ∷ l) (tab_get_or xs d)

-- the first n places of a list that has as many
pub take-tab : {A : Type 0} (n : ℕ) (l : List A) (d : A) → n ≤ length l → take n l ≡ tab n (λ k. get_or l k d)
unfolding tab
take-tab zero l d h = refl
take-tab (suc n) [] d h = absurd (not-suc-le-zero h)
take-tab {A} (suc n) (x ∷ xs) d h = ap (λ (l : List A). x ∷ l) (take-tab n xs d (le_of_suc-le-suc h))

-- the first list of two
tab_front : {A : Type 0} (p q : List A) (d : A) → tab (length p) (λ k. get_or (p ++ q) k d) ≡ p
unfolding tab
tab_front [] q d = refl
tab_front {A} (x ∷ xs) q d = ap (λ (l : List A). x ∷ l) (tab_front xs q d)

pub tab-at : {A : Type 0} (p q : List A) (d : A) (n : ℕ) → length p ≡ n → tab n (λ k. get_or (p ++ q) k d) ≡ p
tab-at p q d n e = ap (λ (i : ℕ). tab i (λ k. get_or (p ++ q) k d)) (sym e) ∙ tab_front p q d

-- a map is the tab of what it makes of each place
pub tab-map : {A B : Type 0} (g : A → B) (d : A) (l : List A) → tab (length l) (λ k. g (get_or l k d)) ≡ map g l
unfolding tab
tab-map g d [] = refl
tab-map {A} {B} g d (x ∷ xs) = ap (λ (l : List B). g x ∷ l) (tab-map g d xs)

pub length-map : {A B : Type 0} (f : A → B) (l : List A) → length (map f l) ≡ length l
length-map f [] = refl
length-map f (x ∷ xs) = ap suc (length-map f xs)

pub get_or-map : {A B : Type 0} (f : A → B) (l : List A) (k : ℕ) (d : A) (e : B) → k < length l → get_or (map f l) k e ≡ f (get_or l k d)
get_or-map f [] k d e h = absurd (not-suc-le-zero h)
get_or-map f (x ∷ xs) zero d e h = refl
get_or-map f (x ∷ xs) (suc k) d e h = get_or-map f xs k d e (le_of_suc-le-suc h)

-- the first i places hold f, and the others what they held in l
pub record Filled {A : Type 0} (f : ℕ → A) (l : List A) (i : ℕ) (out : List A) : Type 0 where
  pub room : length out ≡ length l
  pub holds : out ≡ tab i f ++ drop i l

pub filled_none : {A : Type 0} (f : ℕ → A) (l : List A) → Filled f l 0 l
unfolding tab
filled_none f l = record { room = refl; holds = refl }

pub filled_more : {A : Type 0} {f : ℕ → A} {l : List A} {i : ℕ} {out : List A} (v d : A) → Filled f l i out → i < length l → v ≡ f i → Filled f l (i + 1) (set out i v)
filled_more {A} {f} {l} {i} {out} v d h b e = record {
  room = length-set out i v ∙ h.room;
  holds =
      ap (λ (m : List A). set m i v) (h.holds ∙ ap (λ (r : List A). tab i f ++ r) (drop-cons l i d b))
      ∙ set_at (tab i f) (get_or l i d) (drop (suc i) l) v i (length-tab i f)
      ∙ ap (λ (x : A). tab i f ++ (x ∷ drop (suc i) l)) e
      ∙ sym (append_snoc (tab i f) (f i) (drop (suc i) l))
      ∙ ap (λ (m : List A). m ++ drop (suc i) l) (sym (tab-snoc i f))
      ∙ ap (λ (m : ℕ). tab m f ++ drop m l) (sym (add-one i));
}

pub filled_all : {A : Type 0} {f : ℕ → A} {l : List A} {i : ℕ} {out : List A} → Filled f l i out → i ≡ length l → out ≡ tab (length l) f
filled_all {A} {f} {l} {i} {out} h e =
    h.holds ∙ ap (λ (k : ℕ). tab k f ++ drop k l) e ∙ ap (λ (m : List A). tab (length l) f ++ m) (drop-length l) ∙ append-nil (tab (length l) f)

-- a place that is not yet filled
pub filled_at : {A : Type 0} {f : ℕ → A} {l : List A} {i : ℕ} {out : List A} (d : A) → Filled f l i out → i < length l → get_or out i d ≡ get_or l i d
filled_at {A} {f} {l} {i} {out} d h b =
    ap (λ (m : List A). get_or m i d) (h.holds ∙ ap (λ (r : List A). tab i f ++ r) (drop-cons l i d b))
    ∙ get_or_at (tab i f) (get_or l i d) (drop (suc i) l) d i (length-tab i f)

-- ---- what a loop that filled every place has made: the list r whose places are f's
pub filled_is : {A : Type 0} {f : ℕ → A} {l : List A} {i : ℕ} {out : List A} (d : A) (r : List A) → Filled f l i out → i ≡ length l → length r ≡ length l → ((k : ℕ) → k < length l → get_or r k d ≡ f k) → out ≡ r
filled_is {A} {f} {l} {i} {out} d r h e s p = filled_all h e ∙ sym (is_tab d r (length l) f s p)

-- the same value everywhere
pub filled_replicate : {A : Type 0} {v : A} {l : List A} {i : ℕ} {out : List A} → Filled (λ k. v) l i out → i ≡ length l → out ≡ replicate (length l) v
filled_replicate {A} {v} {l} h e = filled_is v (replicate (length l) v) h e (length-replicate (length l) v) (λ k b. get_or-replicate (length l) k v v b)

-- each place of m by g
pub filled_map : {A B : Type 0} (g : A → B) (d : A) (m : List A) {l : List B} {i : ℕ} {out : List B} → Filled (λ k. g (get_or m k d)) l i out → i ≡ length l → length m ≡ length l → out ≡ map g m
filled_map {A} {B} g d m h e s = filled_all h e ∙ ap (λ (n : ℕ). tab n (λ k. g (get_or m k d))) (sym s) ∙ tab-map g d m

-- in place: one place more
pub mapped_more : {A : Type 0} (g : A → A) (d : A) {l : List A} {i : ℕ} {out : List A} → Filled (λ k. g (get_or l k d)) l i out → i < length l → Filled (λ k. g (get_or l k d)) l (i + 1) (set out i (g (get_or out i d)))
mapped_more g d h b = filled_more _ d h b (ap g (filled_at d h b))

-- the first place that does not pass, from a search that passed the places below it
pub first-at : {A : Type 0} (p : A → Bool) (l : List A) (d : A) (i : ℕ) → i < length l → ((k : ℕ) → k < i → p (get_or l k d) ≡ true) → p (get_or l i d) ≡ false → i ≡ first p l
unfolding first
first-at p [] d i l h e = absurd (not-suc-le-zero l)
first-at p (x ∷ xs) d zero l h e = rw e
first-at p (x ∷ xs) d (suc i) l h e = rw (h 0 (omega arith)) (ap suc (first-at p xs d i (le_of_suc-le-suc l) (λ k b. h (suc k) (omega arith)) e))

pub first-none : {A : Type 0} (p : A → Bool) (l : List A) (d : A) → ((k : ℕ) → k < length l → p (get_or l k d) ≡ true) → length l ≡ first p l
unfolding first
first-none p [] d h = refl
first-none p (x ∷ xs) d h = rw (h 0 (omega arith)) (ap suc (first-none p xs d (λ k b. h (suc k) (omega arith))))

-- ---- a search for the first place that does not pass: it has passed those below i
abbrev pub Searched : {A : Type 0} → (A → Bool) → A → List A → ℕ → Type 0
Searched p d l i = (i ≤ length l) × ((k : ℕ) → k < i → p (get_or l k d) ≡ true)

module _ {A : Type 0} (p : A → Bool) (d : A) (l : List A) where
  module _ {i : ℕ} (h : Searched p d l i) where
    pub searched_all : length l ≤ i → i ≡ first p l
    searched_all b = let e : i ≡ length l = omega arith in e ∙ first-none p l d (λ k u. h.1 k (omega arith))

    -- v is what the code's test of place i gave
    module _ (b : i < length l) {v : Bool} (e : v ≡ p (get_or l i d)) where
      pub searched_more : not v ≡ false → Searched p d l (i + 1)
      searched_more t = (omega arith, below_more _ _ h.1 (sym e ∙ not-false v t))

      pub searched_here : not v ≡ true → i ≡ first p l
      searched_here t = first-at p l d i b h.1 (sym e ∙ not-true v t)

pub first-le : {A : Type 0} (p : A → Bool) (l : List A) → first p l ≤ length l
unfolding first
first-le p [] = omega arith
first-le p (x ∷ xs) = ⊎_elim (λ t. rw t (let h = first-le p xs in omega arith)) (λ f. rw f (omega arith)) (outcomes (p x))

-- the places before it pass
pub first-before : {A : Type 0} (p : A → Bool) (l : List A) (d : A) (k : ℕ) → k < first p l → p (get_or l k d) ≡ true
unfolding first
first-before p [] d k h = absurd (not-suc-le-zero h)
first-before p (x ∷ xs) d k h = ⊎_elim (λ t. go t (first-before p xs d) k (rw t at h)) (λ f. absurd (not-suc-le-zero (rw f at h))) (outcomes (p x))
  where
    go : p x ≡ true → ((i : ℕ) → i < first p xs → p (get_or xs i d) ≡ true) → (k : ℕ) → k < suc (first p xs) → p (get_or (x ∷ xs) k d) ≡ true
    go t r zero h = t
    go t r (suc k) h = r k (le_of_suc-le-suc h)

-- where none fails, each passes
pub first_all : {A : Type 0} (p : A → Bool) (l : List A) (d : A) → first p l ≡ length l → (k : ℕ) → k < length l → p (get_or l k d) ≡ true
first_all p l d e k h = first-before p l d k (omega arith)

-- where one does, it is one that fails
pub first_fails : {A : Type 0} (p : A → Bool) (l : List A) (d : A) → first p l < length l → p (get_or l (first p l) d) ≡ false
unfolding first
first_fails p [] d h = absurd (not-suc-le-zero h)
first_fails p (x ∷ xs) d h = ⊎_elim (λ t. rw t (first_fails p xs d (le_of_suc-le-suc (rw t at h)))) (λ f. rw f f) (outcomes (p x))

-- a first place is inside where any place does not pass
pub first_below : {A : Type 0} (p : A → Bool) (l : List A) (d : A) (k : ℕ) → k < length l → p (get_or l k d) ≡ false → first p l < length l
unfolding first
first_below p [] d k l e = absurd (not-suc-le-zero l)
first_below p (x ∷ xs) d zero l e = rw e (omega arith)
first_below p (x ∷ xs) d (suc k) l e =
    go (p x) (first_below p xs d k (le_of_suc-le-suc l) e)
  where
    go : (b : Bool) → first p xs < length xs → cond b (suc (first p xs)) zero < suc (length xs)
    go true h = omega arith
    go false h = omega arith

-- the library's `position`, of a test turned round
twice : {A : Type 0} (p : A → Bool) (l : List A) → prefix_len (λ x. not (not (p x))) l ≡ first p l
unfolding first
twice p [] = refl
twice p (x ∷ xs) = ⊎_elim (λ t. rw t (let h = twice p xs in omega arith)) (λ f. rw f refl) (outcomes (p x))

pub failing_first : {A : Type 0} (p : A → Bool) (l : List A) → failing p l ≡ cond (ltb (first p l) (length l)) (Some (first p l)) None
failing_first p l = ap (λ (n : ℕ). cond (ltb n (length l)) (Some n) None) (twice p l)

-- the same, by whether the first is at the end
pub failing_last : {A : Type 0} (p : A → Bool) (l : List A) → failing p l ≡ cond (not (eqb (first p l) (length l))) (Some (first p l)) None
failing_last p l =
    failing_first p l
    ∙ ap (λ (b : Bool). cond b (Some (first p l)) None)
    (⊎_elim
    (λ t. le-ltb (first p l) (length l) t.1 ∙ sym (ap not (eq-eqb (first p l) (length l) (let h = t.1 in let g = first-le p l in omega arith))))
    (λ f. lt-ltb (first p l) (length l) f.1 ∙ sym (ap not (ne_eqb (first p l) (length l) (λ e. let h = f.1 in omega arith))))
    (leb_tells (length l) (first p l)))

pub failing_none : {A : Type 0} (p : A → Bool) (l : List A) → eqb (first p l) (length l) ≡ true → failing p l ≡ None
failing_none p l e = failing_first p l ∙ rw (le-ltb (first p l) (length l) (let h = eqb-true (first p l) (length l) e in omega arith))

-- what a fold over all values has seen: whether they pass
and-true : (b : Bool) → b ≡ (b && true)
and-true true = refl
and-true false = refl

and-false : (b : Bool) → false ≡ (b && false)
and-false true = refl
and-false false = refl

pub folded_all : {A : Type 0} (p : A → Bool) (l : List A) (b : Bool) → fold (λ (all : Bool) x. p x && all) b l ≡ (b && eqb (first p l) (length l))
unfolding first
folded_all p [] b = and-true b
folded_all {A} p (x ∷ xs) b = go (p x) (folded_all p xs)
  where
    go : (t : Bool) → ((c : Bool) → fold (λ (all : Bool) (y : A). p y && all) c xs ≡ (c && eqb (first p xs) (length xs))) → fold (λ (all : Bool) (y : A). p y && all) (t && b) xs ≡ (b && eqb (cond t (suc (first p xs)) zero) (suc (length xs)))
    go true h = h b ∙ ap (λ c. b && c) (sym (eqb-suc-suc (first p xs) (length xs)))
    go false h = h false ∙ and-false b ∙ ap (λ c. b && c) (sym (eqb-zero-suc (length xs)))
