-- Document 02 §2, the loudest band: what the product is that bands are ranked by, and small facts on each side of its rules, of the definition that the contract of
-- `loudest_band` cites. Which band is told is P12 of P, what any call is told the first rows of `Papers`. Definitions only.
use Rattle.std.specs.Prelude.{ℕ, ◌<◌, ◌≡◌, true, false, List, T, pos, length, get_or, replicate, Float}
use Rattle.std.specs.Float.{nan, inf, binary32}
use Rattle.std.specs.Float.Ieee.{of_bits, of_int, fits}
use Rattle.std.specs.Float.Ieee.Exact.{HasValue}
use Rattle.laws.specs.Numbers.{zero32}
use Rattle.laws.specs.Passes.{passes6, passes7}
use Rattle.config.specs.Config.{valid, nf, nb, edges}
use Rattle.refusals.specs.Refusals.{bad_config, bad_energies, bad_energy}
use Rattle.measurement_steps.specs.Energy.{band_of}
use Rattle.measurement.specs.Measurement.{energies_of}
use Rattle.bounds.specs.Within.{Each}
use Rattle.loudest.specs.Loudest.{width, product, products, silent, heard, of_loud, of_quiet, of_refusal, paper}
use Rattle.promises.specs.Facts.{beside60}
use Rattle.promises.specs.NoOverflow.{Finite}

pub record Ranking : Type 0 where
  -- "Number of lines": a band's width is how many of a frame's nf lines are in it.
  pub lines : (c : ℕ) → T (valid c) → (l : List Float) → length l ≡ nf c → (b : ℕ) → b < nb c → width (edges c) b ≡ length (band_of (edges c) l b)
  -- As an f32 it is itself.
  pub exact : (c : ℕ) → T (valid c) → (b : ℕ) → b < nb c → HasValue (of_int binary32 (pos (width (edges c) b))) false (width (edges c) b) 1
  -- Of an energy that an f32 holds and that passes 7, the product is a zero exactly when the energy is.
  pub zero : (c : ℕ) → T (valid c) → (l : List Float) (b : ℕ) → b < nb c → T (fits binary32 (get_or l b nan)) → passes7 (get_or l b nan) ≡ true
      → silent (product (edges c) l b) ≡ silent (get_or l b nan)
  -- The smallest energy there is, 2^-149, in a band of twenty lines: loud, with twenty times that. Zeros of both signs: quiet.
  pub smallest : paper (heard 9 (beside60 2 0 1)) ≡ of_loud 60 (of_bits binary32 20)
  pub zeros : paper (heard 9 (beside60 2 0x80000000 0)) ≡ of_quiet
  -- "An overflow ranking as infinity": above the greatest f32 in a band of one line; and of two infinities the first, though its energy is the smaller one.
  pub overflow : paper (heard 9 (beside60 2 0x7f7fffff 0x7f000000)) ≡ of_loud 60 (inf false)
  pub two_infinities : paper (heard 9 (beside60 50 0x7f000000 0x7f7fffff)) ≡ of_loud 50 (inf false)
  -- Energies that a measurement gave, of any nf lines that pass 6, have products that are finite: an overflow is of energies from elsewhere.
  pub never_infinite : (c : ℕ) → T (valid c) → (l : List Float) → length l ≡ nf c → Each (λ x. T (passes6 x)) l → Each Finite (products (edges c) (energies_of c l))
  -- "1 is tested there before 5": configuration 20, whatever the energies and how many.
  pub config_first : (l : List Float) → paper (heard 20 l) ≡ of_refusal bad_config 0
  -- "5, now for exactly nb": 60 energies at a configuration of 64 bands, and 64 at one of 60.
  pub sixty : paper (heard 9 (replicate 60 zero32)) ≡ of_refusal bad_energies 0
  pub sixty_four : paper (heard 0 (replicate 64 zero32)) ≡ of_refusal bad_energies 0
  -- "and 7", after both: sixty NaNs.
  pub length_first : paper (heard 9 (replicate 60 nan)) ≡ of_refusal bad_energies 0
  -- A NaN at two places: 7, with the first.
  pub two_nans : paper (heard 9 (beside60 2 0x7fc00000 0x7fc00000)) ≡ of_refusal bad_energy 2
