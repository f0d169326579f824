-- Lists by their places. Definitions only.
use Rattle.std.specs.Prelude.{ℕ, zero, suc, ◌+◌, ◌≤◌, ◌<◌, Bool, not, cond, List, [], ◌∷◌, Option, get_or, position}

-- f 0, f 1, .. : n of them
unfoldable pub tab : {A : Type 0} → ℕ → (ℕ → A) → List A
tab zero f = []
tab (suc n) f = f 0 ∷ tab n (λ k. f (suc k))

-- the place of the first that does not pass the test, or the length where all pass
unfoldable pub first : {A : Type 0} → (A → Bool) → List A → ℕ
first p [] = zero
first p (x ∷ xs) = cond (p x) (suc (first p xs)) zero

-- that place, where one does not pass
abbrev pub failing : {A : Type 0} → (A → Bool) → List A → Option ℕ
failing p l = position (λ x. not (p x)) l

-- m bands with the edges es: each has a line at least, and none goes past n
abbrev pub Rising : ℕ → List ℕ → ℕ → Type 0
Rising m es n = (b : ℕ) → b < m → (get_or es b 0 < get_or es (b + 1) 0) × (get_or es (b + 1) 0 ≤ n)
