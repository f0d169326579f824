-- The transform (kissfft.rs): the plan of a size, and what each place of the output is. Definitions only.
use Rattle.std.specs.Prelude.{◌≡◌, Bool, true, false, cond, ◌&&◌, List, [], ◌∷◌, ℕ, zero, suc, ◌+◌, ◌*◌, ◌/◌, ◌%◌, ltb, leb, eqb, Float}
use Rattle.complex.specs.declared.Complex.{Complex}
use Rattle.laws.specs.Lists.{tab}
use Rattle.butterflies.specs.Butterflies.{stage, column2, column3, column4, column5}

-- the trial after p: 4, 2, 3, 5, 7, ..
abbrev pub next : ℕ → ℕ
next p = cond (eqb p 4) 2 (cond (eqb p 2) 3 (p + 2))

-- A trial above the floor of the root of the whole size (its square is above the size) becomes the rest n itself.
abbrev pub trial : ℕ → ℕ → ℕ → ℕ
trial size n p = cond (ltb size (next p * next p)) n (next p)

-- At most f steps of `kf_factor`: whether all is factored, whether p divides the rest, the whole size, the trial p and the rest n.
abbrev pub factor : ℕ → Bool → Bool → ℕ → ℕ → ℕ → List ℕ
factor zero done divides size p n = []
factor (suc f) true divides size p n = []
factor (suc f) false true size p n = p ∷ n / p ∷ factor f (leb (n / p) 1) (eqb (n / p % p) 0) size p (n / p)
factor (suc f) false false size p n = let q = trial size n p in factor f false (eqb (n % q) 0) size q n

-- The plan of a size: radix, inner length, radix, inner length, .. down to 1. No size of document 01's table takes more than 16 steps.
unfoldable pub plan : ℕ → List ℕ
plan size = factor 16 false (eqb (size % 4) 0) size 4 size

-- the size that a plan is of: its first radix times the inner length, and 1 where nothing is left
abbrev pub span : List ℕ → ℕ
span [] = 1
span (p ∷ []) = p
span (p ∷ m ∷ ps) = p * m

-- a whole plan: each radix is 2, 3, 4 or 5, and each inner length is the size of what is left
unfoldable pub planned : List ℕ → Bool
planned [] = true
planned (p ∷ []) = false
planned (p ∷ m ∷ ps) = leb 2 p && (leb p 5 && (eqb m (span ps) && planned ps))

-- `kf_work`'s choice by the radix p: what a stage with parts of m places and twiddle stride s makes of column j
unfoldable pub column : (ℕ → Complex) → Bool → ℕ → ℕ → ℕ → ℕ → (ℕ → Complex) → ℕ → Complex
column t inverse s p m =
    cond (eqb p 2) (column2 t s) (cond (eqb p 3) (column3 t s m) (cond (eqb p 4) (column4 inverse t s) (column5 t s m)))

-- `kf_work`: place k of the transform of x o, x (o + s), x (o + 2 s), .. by the plan, with the twiddles t. The transforms by the rest
-- of the plan, at p times the stride, stand one after the other, the q-th from place q m on, and one stage turns them into the whole.
unfoldable pub work : (ℕ → Complex) → Bool → (ℕ → Complex) → List ℕ → ℕ → ℕ → ℕ → Complex
work t inverse x [] s o k = x o
work t inverse x (p ∷ []) s o k = x o
work t inverse x (p ∷ m ∷ ps) s o k =
    stage p m (column t inverse s p m) (λ k. work t inverse x ps (s * p) (o + k / m * s) (k % m)) k

-- f below n, and g from n on
unfoldable pub within : ℕ → (ℕ → Complex) → (ℕ → Complex) → ℕ → Complex
within n f g k = cond (ltb k n) (f k) (g k)

-- `transform`: place k of the transform of n numbers x with the twiddles t
unfoldable pub spectrum : (ℕ → Complex) → Bool → ℕ → (ℕ → Complex) → ℕ → Complex
spectrum t inverse n x = work t inverse x (plan n) 1 0

-- n places as their real and their imaginary parts
abbrev pub reals : ℕ → (ℕ → Complex) → List Float
reals n f = tab n (λ k. (f k).r)

abbrev pub imaginaries : ℕ → (ℕ → Complex) → List Float
imaginaries n f = tab n (λ k. (f k).i)

-- re and im are the two parts of n places of f
abbrev pub BothParts : ℕ → (ℕ → Complex) → List Float → List Float → Type 0
BothParts n f re im = (re ≡ reals n f) × (im ≡ imaginaries n f)
