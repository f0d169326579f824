-- Lists by their places: read backwards, two together, in two parts; and what a loop that writes every place leaves. Assumes nothing.
use mathlib.Core.Path.{◌≡◌, refl, sym, ap, ap₂, ◌∙◌}
use mathlib.Core.Bool.{Bool, true, false}
use mathlib.Core.Logic.{⊎_elim, inl, inr, ◌⊎◌}
use mathlib.Core.List.{List, [], ◌∷◌, ◌++◌, reverse, reverse-cons, zip_with}
use Prim.Native.Nat.{ℕ, zero, suc, ◌+◌, ◌-◌, ◌≤◌, ◌<◌}
use native.Mathlib.Nat.{not-suc-le-zero, le_of_suc-le-suc}
use native.Mathlib.Omega.{arith}
use lib.Dec.{ltb}
use lib.ListN.{length, get_or, take, drop, length-drop, length-reverse, get_or-append}
use lib.Seq.{get_or-append-add, get_or-take, get_or-drop, length-take-le, take_at, drop_at, take-add, drop-drop}
use borrow.Rule.Slice.PartMut.{mid_of, put_mid}
use borrow.Author.Tests.{ltb-true, ltb-false}
use Rattle.laws.proofs.Lists.{Filled, filled_is}
use Rattle.laws.proofs.Parts.{mid_tail, put_tail}

-- before a place, or not
pub lt-or_ge : (k n : ℕ) → (k < n) ⊎ (n ≤ k)
lt-or_ge k n = go (ltb k n) refl
  where
    go : (b : Bool) → ltb k n ≡ b → (k < n) ⊎ (n ≤ k)
    go true e = inl (ltb-true k n e)
    go false e = inr (ltb-false k n e)

-- within the list the default plays no part
pub get_or-within : {A : Type 0} (l : List A) (k : ℕ) (c d : A) → k < length l → get_or l k c ≡ get_or l k d
get_or-within [] k c d p = absurd (not-suc-le-zero p)
get_or-within (x ∷ xs) zero c d p = refl
get_or-within (x ∷ xs) (suc k) c d p = get_or-within xs k c d (le_of_suc-le-suc p)

-- the second part of a list, from its start on
pub get_or-second : {A : Type 0} (l m : List A) (k : ℕ) (d : A) → length l ≤ k → get_or (l ++ m) k d ≡ get_or m (k - length l) d
get_or-second {A} l m k d h =
    let e : k ≡ length l + (k - length l) = omega arith in
    ap (λ (j : ℕ). get_or (l ++ m) j d) e ∙ get_or-append-add l m (k - length l) d

pub get_or-reverse : {A : Type 0} (l : List A) (k : ℕ) (d : A) → k < length l → get_or (reverse l) k d ≡ get_or l (length l - 1 - k) d
get_or-reverse [] k d h = absurd (not-suc-le-zero h)
get_or-reverse {A} (x ∷ xs) k d h = rw (reverse-cons x xs) (⊎_elim
    (λ q.
    let e : length (x ∷ xs) - 1 - k ≡ suc (length xs - 1 - k) = omega arith in
    rw e (get_or-append (reverse xs) (x ∷ []) d k (rw (length-reverse xs) q) ∙ get_or-reverse xs k d q))
    (λ q.
    let e : length (x ∷ xs) - 1 - k ≡ 0 = omega arith in
    let s : k ≡ length (reverse xs) + 0 = omega (arith, length-reverse xs) in
    rw e (ap (λ (j : ℕ). get_or (reverse xs ++ (x ∷ [])) j d) s ∙ get_or-append-add (reverse xs) (x ∷ []) 0 d))
    (lt-or_ge k (length xs)))

-- an operation that takes the default through
pub get_or-zip_with : {A B C : Type 0} (f : A → B → C) (a : A) (b : B) (c : C) → ((y : B) → f a y ≡ c) → ((x : A) → f x b ≡ c) → (xs : List A) (ys : List B) (k : ℕ) → get_or (zip_with f xs ys) k c ≡ f (get_or xs k a) (get_or ys k b)
unfolding zip_with
get_or-zip_with f a b c p q [] ys k = sym (p (get_or ys k b))
get_or-zip_with f a b c p q (x ∷ xs) [] k = sym (q (get_or (x ∷ xs) k a))
get_or-zip_with f a b c p q (x ∷ xs) (y ∷ ys) zero = refl
get_or-zip_with f a b c p q (x ∷ xs) (y ∷ ys) (suc k) = get_or-zip_with f a b c p q xs ys k

pub length-zip_with : {A B C : Type 0} (f : A → B → C) (xs : List A) (ys : List B) → length xs ≡ length ys → length (zip_with f xs ys) ≡ length xs
unfolding zip_with
length-zip_with f [] ys e = refl
length-zip_with f (x ∷ xs) [] e = absurd (none (length xs) e)
  where
    none : (n : ℕ) → suc n ≡ 0 → ⊥
    none n e = omega arith
length-zip_with f (x ∷ xs) (y ∷ ys) e = ap suc (length-zip_with f xs ys (omega arith))

-- two together, each in two parts
zip_with-append : {A B C : Type 0} (f : A → B → C) (xs us : List A) (ys zs : List B) → length xs ≡ length ys → zip_with f (xs ++ us) (ys ++ zs) ≡ zip_with f xs ys ++ zip_with f us zs
unfolding zip_with
zip_with-append f [] us [] zs e = refl
zip_with-append f [] us (y ∷ ys) zs e = cc
zip_with-append f (x ∷ xs) us [] zs e = cc
zip_with-append {C = C} f (x ∷ xs) us (y ∷ ys) zs e = ap (λ (l : List C). f x y ∷ l) (zip_with-append f xs us ys zs (omega arith))

-- a loop that wrote the places of t from `from` on
pub filled_part : {A : Type 0} {l : List A} {i : ℕ} {out : List A} (d : A) (from : ℕ) (t : List A) → Filled (λ k. get_or t (from + k) d) l i out → i ≡ length l → from + length l ≤ length t → out ≡ take (length l) (drop from t)
filled_part {A} {l} d from t h e b =
    filled_is d (take (length l) (drop from t)) h e (length-take-le (length l) (drop from t) (omega (arith, length-drop from t)))
    (λ k p. get_or-take (length l) (drop from t) k d p ∙ get_or-drop from t k d)

-- the first n places came back as x; the others are then lent as they were, and come back as y
module _ {A : Type 0} (n : ℕ) (l : List A) {p x : List A} (i : p ≡ x) (e : length x ≡ n) where
  pub second-lent : mid_of n (length (p ++ drop n l) - n) (p ++ drop n l) ≡ drop n l
  second-lent = mid_tail n (p ++ drop n l) ∙ drop_at p (drop n l) n (ap length i ∙ e)

  pub two-parts : {q y : List A} → q ≡ y → put_mid n (length (p ++ drop n l) - n) (p ++ drop n l) q ≡ x ++ y
  two-parts {q} {y} j = put_tail n (p ++ drop n l) q ∙ ap (λ (r : List A). r ++ q) (take_at p (drop n l) n (ap length i ∙ e) ∙ i) ∙ ap (λ (r : List A). x ++ r) j

-- places of t, those of q behind those of p
module _ {A : Type 0} (a b from : ℕ) {c to : ℕ} (t : List A) (f : from + a ≡ to) (s : a + b ≡ c) where
  joined : take a (drop from t) ++ take b (drop to t) ≡ take c (drop from t)
  joined =
      ap (λ (r : List A). take a (drop from t) ++ take b r) (ap (λ (k : ℕ). drop k t) (sym f) ∙ sym (drop-drop a from t))
      ∙ sym (take-add a b (drop from t))
      ∙ ap (λ (k : ℕ). take k (drop from t)) s

  pub two-places : {p q : List A} → p ≡ take a (drop from t) → q ≡ take b (drop to t) → p ++ q ≡ take c (drop from t)
  two-places i j = ap₂ (λ (x y : List A). x ++ y) i j ∙ joined

  -- the same with x and y added to them, or whatever the operation is
  pub two_sums : (g : A → A → A) (m x y : List A) {p q : List A} → to ≤ length t → m ≡ x ++ y → length x ≡ a
      → p ≡ zip_with g x (take a (drop from t)) → q ≡ zip_with g y (take b (drop to t)) → p ++ q ≡ zip_with g m (take c (drop from t))
  two_sums g m x y h k e i j =
      ap₂ (λ (x y : List A). x ++ y) i j
      ∙ sym (zip_with-append g x y (take a (drop from t)) (take b (drop to t)) (e ∙ sym (length-take-le a (drop from t) (omega (arith, length-drop from t)))))
      ∙ ap₂ (zip_with g) (sym k) joined
