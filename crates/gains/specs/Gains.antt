-- The gain of each length, as the Rust computes it (the two modified_dct.rs), and a list times a gain. Definitions only.
use Rattle.std.specs.Prelude.{Bool, cond, ◌&&◌, List, [], ◌∷◌, map, ℕ, ◌*◌, ◌^◌, T, eqb, pos, ◌*ℤ◌, Float}
use Rattle.std.specs.Float.{binary32}
use Rattle.std.specs.Float.Ieee.{of_bits, mul}
use Rattle.laws.specs.Exact.{finite, units, near}
use Rattle.config.specs.Config.{among}
use Rattle.gains.specs.Tables.{lengths, gain_bits}

-- what stands in the second list where the first has n, and 0 where it does not
abbrev pub look : List ℕ → List ℕ → ℕ → ℕ
look [] bs n = 0
look (m ∷ ms) [] n = 0
look (m ∷ ms) (b ∷ bs) n = cond (eqb m n) b (look ms bs n)

-- "Gain: 1 divided by the f32 square root of 2·nf"; 0.0 for a length that no configuration has
unfoldable pub gain : ℕ → Float
gain nf = of_bits binary32 (look lengths gain_bits nf)

-- each value times a gain
unfoldable pub scaled : Float → List Float → List Float
scaled g l = map (λ (x : Float). mul binary32 x g) l

-- the square of the gain of length nf, times 2 nf, is within 2^-22 of 1
unfoldable pub rooted : ℕ → Float → Bool
rooted nf g = finite g && near (units g *ℤ units g *ℤ pos (2 * nf)) (pos (2 ^ 298))

-- What is promised of every gain.
pub record Rules : Type 0 where
  -- the square of a length's gain, times 2 nf, is within 2^-22 of 1
  pub gain_rooted : (nf : ℕ) → T (among lengths nf) → T (rooted nf (gain nf))
