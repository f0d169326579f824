-- Bands of one line each, which the code takes by fours: for the contracts of the steps. Definitions only.
use Rattle.std.specs.Prelude.{ℕ, ◌+◌, ◌*◌, ◌/◌, ◌≤◌, ◌<◌, ◌≡◌, List, ◌++◌, get_or, drop}
use Rattle.laws.specs.Lists.{tab}

-- the four bands from b on are of one line each: their edges go up by one
abbrev pub Apart : List ℕ → ℕ → Type 0
Apart edges b = (k : ℕ) → k < 5 → get_or edges (b + k) 0 ≡ get_or edges b 0 + k

-- of n bands the first r fours are of one line each, and the next four, if there are as many, are not
abbrev pub Fours : ℕ → List ℕ → ℕ → Type 0
Fours n edges r = (r ≤ n / 4) × ((q : ℕ) → q < r → Apart edges (4 * q)) × (r < n / 4 → Apart edges (4 * r) → ⊥)

-- l with its first n places at f
abbrev pub begun : {A : Type 0} → ℕ → (ℕ → A) → List A → List A
begun n f l = tab n f ++ drop n l
