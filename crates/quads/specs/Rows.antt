-- Columns of a block written part by part, each part's places side by side. Places are a function from a place to a complex number. Definitions only.
use Rattle.std.specs.Prelude.{Bool, cond, List, ℕ, zero, suc, ◌+◌, ◌*◌, ◌-◌, ◌≤◌, eqb, length, set, Float}
use Rattle.complex.specs.declared.Complex.{Complex}
use Rattle.complex.specs.Complex.{upd}

-- g with the n neighbouring places from k on at v 0, v 1, ..
abbrev pub writes : (ℕ → Complex) → ℕ → (ℕ → Complex) → ℕ → ℕ → Complex
writes g k v zero = g
writes g k v (suc c) = upd (writes g k v c) (k + c) (v c)

-- g with p parts of the n columns from i on at v, in the order o 0, o 1, ..: part r of column i + c at v c r
abbrev pub rows : ℕ → ℕ → (ℕ → Complex) → ℕ → (ℕ → ℕ) → (ℕ → ℕ → Complex) → ℕ → ℕ → Complex
rows n m g i o v zero = g
rows n m g i o v (suc q) = writes (rows n m g i o v q) (i + m * o q) (λ c. v c (o q)) n

-- parts as they come
abbrev pub in_turn : ℕ → ℕ
in_turn q = q

-- the inverse's radix 4 is the forward one with parts 1 and 3 exchanged
unfoldable pub exchanged : Bool → ℕ → ℕ
exchanged inverse q = cond inverse (cond (eqb q 1) 3 (cond (eqb q 3) 1 q)) q

-- column j of places f in parts of m, turned: b j makes a column of a column
abbrev pub turned : ℕ → (ℕ → (ℕ → Complex) → ℕ → Complex) → (ℕ → Complex) → ℕ → ℕ → Complex
turned m b f j = b j (λ q. f (j + m * q))

-- f with the n columns from i on turned, all read before any is written: p parts, in the order o
abbrev pub turned_columns : ℕ → ℕ → ℕ → (ℕ → ℕ) → (ℕ → (ℕ → Complex) → ℕ → Complex) → ℕ → (ℕ → Complex) → ℕ → Complex
turned_columns n p m o b i f = rows n m f i o (λ c. turned m b f (i + c)) p

-- a block of p parts of m places is in both slices re and im, and the twiddles of all its parts but the first in both tables tr and ti
abbrev pub Room : ℕ → ℕ → List Float → List Float → List Float → List Float → Type 0
Room p m tr ti re im = (m * (p - 1) ≤ length tr) × (m * (p - 1) ≤ length ti) × (m * p ≤ length re) × (m * p ≤ length im)

-- s with the four neighbouring places from k on at a, b, c, d
abbrev pub lane : List Float → ℕ → Float → Float → Float → Float → List Float
lane s k a b c d = set (set (set (set s k a) (k + 1) b) (k + 2) c) (k + 3) d
