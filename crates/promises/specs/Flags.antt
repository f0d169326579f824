-- The near-Nyquist flag on each side of its edge at each configuration, as P8 to P10 have it at two: "set when upper > 30.0 * lower, strictly",
-- "only at 32 kHz or less". Definitions only.
use Rattle.std.specs.Prelude.{ℕ, ◌-◌, ◌≡◌, true, false, List, [], ◌∷◌, ◌++◌, map, replicate, Float}
use Rattle.std.specs.Float.{binary32}
use Rattle.std.specs.Float.Ieee.{of_bits}
use Rattle.laws.specs.Numbers.{zero32}
use Rattle.config.specs.Config.{configs, nb, upper}
use Rattle.measurement.specs.Measurement.{flag_of}

-- energies of configuration c, zero but band 0 = 1.0 and the first upper band = the value whose bits are b
abbrev pub edge : ℕ → ℕ → List Float
edge c b = of_bits binary32 0x3f800000 ∷ replicate (nb c - upper c - 1) zero32 ++ (of_bits binary32 b ∷ replicate (upper c - 1) zero32)

pub record Flags : Type 0 where
  -- at 30.0 there is no flag
  pub at_the_edge : map (λ c. flag_of c (edge c 0x41f00000)) configs ≡ false ∷ false ∷ false ∷ false ∷ false ∷ false ∷ false ∷ false ∷ false ∷ false ∷ false ∷ false ∷ false ∷ false ∷ false ∷ false ∷ false ∷ false ∷ false ∷ false ∷ []
  -- one step above it there is, but at 48 kHz
  pub above_it : map (λ c. flag_of c (edge c 0x41f00001)) configs ≡ true ∷ true ∷ true ∷ true ∷ false ∷ true ∷ true ∷ true ∷ true ∷ false ∷ true ∷ true ∷ true ∷ true ∷ false ∷ true ∷ true ∷ true ∷ true ∷ false ∷ []
