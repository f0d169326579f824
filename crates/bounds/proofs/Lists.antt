-- What each value of a list has, through the list operations. Assumes nothing.
use mathlib.Core.List.{List, [], ◌∷◌, ◌++◌, map, reverse, reverse_aux, zip_with}
use Prim.Native.Nat.{ℕ, zero, suc, ◌<◌}
use native.Mathlib.Nat.{not-suc-le-zero, le_of_suc-le-suc}
use native.Mathlib.Omega.{arith}
use lib.ListN.{length, get_or, take, drop, replicate}
use Rattle.laws.specs.Lists.{tab}
use Rattle.bounds.specs.Within.{Each, none, also}

module _ {A : Type 0} {P : A → Type 0} where
  pub each_append : {xs ys : List A} → Each P xs → Each P ys → Each P (xs ++ ys)
  each_append none b = b
  each_append (also h a) b = also h (each_append a b)

  pub each_take : (n : ℕ) {xs : List A} → Each P xs → Each P (take n xs)
  each_take zero a = none
  each_take (suc n) none = none
  each_take (suc n) (also h a) = also h (each_take n a)

  pub each-drop : (n : ℕ) {xs : List A} → Each P xs → Each P (drop n xs)
  each-drop zero a = a
  each-drop (suc n) none = none
  each-drop (suc n) (also h a) = each-drop n a

  pub each-replicate : (n : ℕ) (x : A) → P x → Each P (replicate n x)
  each-replicate zero x h = none
  each-replicate (suc n) x h = also h (each-replicate n x h)

  each_onto : {xs ys : List A} → Each P xs → Each P ys → Each P (reverse_aux xs ys)
  each_onto none b = b
  each_onto (also h a) b = each_onto a (also h b)

  pub each-reverse : {xs : List A} → Each P xs → Each P (reverse xs)
  each-reverse a = each_onto a none

  pub each-tab : (n : ℕ) (f : ℕ → A) → ((k : ℕ) → k < n → P (f k)) → Each P (tab n f)
  unfolding tab
  each-tab zero f h = none
  each-tab (suc n) f h = also (h 0 (omega arith)) (each-tab n (λ k. f (suc k)) (λ k l. h (suc k) (omega arith)))

  -- a place of the list; or the default
  pub each_at : (d : A) {xs : List A} (k : ℕ) → Each P xs → k < length xs → P (get_or xs k d)
  each_at d k none l = absurd (not-suc-le-zero l)
  each_at d zero (also h a) l = h
  each_at d (suc k) (also h a) l = each_at d k a (le_of_suc-le-suc l)

  pub each_or : (d : A) {xs : List A} (k : ℕ) → P d → Each P xs → P (get_or xs k d)
  each_or d k e none = e
  each_or d zero e (also h a) = h
  each_or d (suc k) e (also h a) = each_or d k e a

  pub each_of : (d : A) (xs : List A) → ((k : ℕ) → k < length xs → P (get_or xs k d)) → Each P xs
  each_of d [] h = none
  each_of d (x ∷ xs) h = also (h 0 (omega arith)) (each_of d xs (λ k l. h (suc k) (omega arith)))

  pub each_weaken : {Q : A → Type 0} → ((x : A) → P x → Q x) → {xs : List A} → Each P xs → Each Q xs
  each_weaken w none = none
  each_weaken w (also {x} h a) = also (w x h) (each_weaken w a)

  pub each_map : {B : Type 0} {Q : B → Type 0} (f : A → B) → ((x : A) → P x → Q (f x)) → {xs : List A} → Each P xs → Each Q (map f xs)
  each_map f w none = none
  each_map f w (also {x} h a) = also (w x h) (each_map f w a)

  pub each_zip : {B C : Type 0} {Q : B → Type 0} {R : C → Type 0} (f : A → B → C) → ((x : A) (y : B) → P x → Q y → R (f x y)) → {xs : List A} {ys : List B} → Each P xs → Each Q ys → Each R (zip_with f xs ys)
  unfolding zip_with
  each_zip f w none b = none
  each_zip f w (also h a) none = none
  each_zip f w (also {x} h a) (also {x = y} g b) = also (w x y h g) (each_zip f w a b)
