-- What a transform of size n reads of its twiddles, packed: those of a stage stand one beside the other. Definitions only.
use Rattle.std.specs.Prelude.{Bool, true, false, cond, List, [], ◌∷◌, ◌++◌, map, ℕ, suc, ◌*◌, ◌-◌, ◌/◌, ◌%◌, T, get_or, Float}
use Rattle.std.specs.Float.{nan}
use Rattle.std.specs.Float.Ieee.{neg}
use Rattle.laws.specs.Lists.{tab}
use Rattle.complex.specs.Complex.{at}
use Rattle.config.specs.Config.{among, fft_sizes}
use Rattle.kf_work.specs.Work.{plan}
use Rattle.kf_work.specs.Packed.{Packed}
use Rattle.twiddles.specs.Twiddles.{fft_re, fft_im, twiddle}

-- Which twiddle stands where, at stride s: of each stage twiddle q j s at place j of part q, one part after the other, then those of the rest of the plan.
-- The innermost stage reads no turn, a fifth and two fifths.
unfoldable pub order : List ℕ → ℕ → List ℕ
order [] s = []
order (p ∷ []) s = []
order (p ∷ m ∷ []) s = 0 ∷ s ∷ 2 * s ∷ []
order (p ∷ m ∷ r ∷ ps) s = tab (m * (p - 1)) (λ k. suc (k / m) * (k % m * s)) ++ order (r ∷ ps) (s * p)

-- all that size n reads, n - 1 of them: the last is a third of a turn
unfoldable pub read : ℕ → List ℕ
read n = order (plan n) 1 ++ (n / 3 ∷ [])

-- the parts as two lists
unfoldable pub packed_re : ℕ → List Float
packed_re n = map (λ k. get_or (fft_re n) k nan) (read n)

unfoldable pub packed_im : ℕ → List Float
packed_im n = map (λ k. get_or (fft_im n) k nan) (read n)

-- the table of size n as the code has it: the real parts, then the imaginary parts
unfoldable pub packed_table : ℕ → List Float
packed_table n = packed_re n ++ packed_im n

-- what the code lends: the table and the plan of a size that a configuration has, and nothing at any other number
unfoldable pub packed_lent : ℕ → List Float
packed_lent n = cond (among fft_sizes n) (packed_table n) []

unfoldable pub plan_lent : ℕ → List ℕ
plan_lent n = cond (among fft_sizes n) (plan n) []

-- "The inverse table negates each imaginary part."
unfoldable pub packed_im_of : Bool → ℕ → List Float
packed_im_of false n = packed_im n
packed_im_of true n = map neg (packed_im n)

-- the table of size n of a direction
unfoldable pub packed_table_of : Bool → ℕ → List Float
packed_table_of inverse n = packed_re n ++ packed_im_of inverse n

-- at every size, forward and inverse, the packed table has at each place the twiddle that its stage reads there
abbrev pub AllPacked : Type 0
AllPacked = (n : ℕ) → T (among fft_sizes n) → (inverse : Bool) → Packed (twiddle n inverse) (plan n) 1 (at (packed_re n) (packed_im_of inverse n))
