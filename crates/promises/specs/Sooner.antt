-- Document 02 §7, the flag, sooner: its yes or no is the full flag's, how many bands it reads, and that refusals come before any adding; then small facts on each side
-- of these rules. Of the definition that the contract of `near_nyquist` cites. Definitions only.
use Rattle.std.specs.Prelude.{ℕ, ◌+◌, ◌-◌, ◌≤◌, ◌<◌, ◌≡◌, true, false, cond, List, [], ◌∷◌, ◌++◌, map, T, leb, length, replicate, Float}
use Rattle.std.specs.Float.{nan, binary32}
use Rattle.std.specs.Float.Ieee.{of_bits, lt}
use Rattle.laws.specs.Numbers.{zero32}
use Rattle.laws.specs.Lists.{first}
use Rattle.laws.specs.Passes.{passes6, passes7}
use Rattle.config.specs.Config.{largest, valid, configs, nf, nb, rate, upper}
use Rattle.refusals.specs.Refusals.{accepted}
use Rattle.refusals.specs.Refusals as refusals
use Rattle.measurement.specs.Measurement.{energies_of, flag_of}
use Rattle.bounds.specs.Within.{Each}
use Rattle.near_nyquist.specs.Sooner.{bound, upper_sum, told, refusal, asked}
use Rattle.promises.specs.Flags.{edge}

-- the first of the upper bands
abbrev pub split : ℕ → ℕ
split c = nb c - upper c

-- the running sum of the upper bands exceeds 30.0 times the lower sum with band b; and does not
abbrev pub Exceeds : ℕ → List Float → ℕ → Type 0
Exceeds c l b = T (lt (bound (split c) l) (upper_sum (split c) l b))

abbrev pub Keeps : ℕ → List Float → ℕ → Type 0
Keeps c l b = lt (bound (split c) l) (upper_sum (split c) l b) ≡ false

-- "every set of energies that passes 7": as many as the configuration has bands, and each passes
pub record Passed (c : ℕ) (l : List Float) : Type 0 where
  pub config : c ≤ largest
  pub bands : length l ≡ nb c
  pub values : first passes7 l ≡ length l

-- it stopped at a band: an upper one, the first where the running sum exceeds; r is one more
pub record Stopped (c : ℕ) (l : List Float) (r : ℕ) : Type 0 where
  pub band : ℕ
  pub next : r ≡ band + 1
  pub from : split c ≤ band
  pub inside : band < nb c
  pub here : Exceeds c l band
  pub before : (b : ℕ) → split c ≤ b → b < band → Keeps c l b

-- energies of 64 bands, zero but band 0, band 59 and bands 60 to 63, with these bits: at configuration 1, of 16 kHz, and at 4, of 48 kHz, the last four are upper
abbrev pub bands : ℕ → ℕ → ℕ → ℕ → ℕ → ℕ → List Float
bands a b w x y z = of_bits binary32 a ∷ replicate 58 zero32 ++ map (of_bits binary32) (b ∷ w ∷ x ∷ y ∷ z ∷ [])

pub record Sooner : Type 0 where
  -- "Its yes or no equals the full flag for every set of energies that passes 7", at every configuration
  pub taken : (c : ℕ) (l : List Float) → Passed c l → ((asked c l).number ≡ accepted) × ((asked c l).index ≡ 0)
  pub flag : (c : ℕ) (l : List Float) → Passed c l → (asked c l).answer ≡ flag_of c l
  -- Yes: it says one more than the number of the band that it stopped at, the first upper band with which the running sum exceeds
  pub yes : (c : ℕ) (l : List Float) → Passed c l → (asked c l).answer ≡ true → Stopped c l (asked c l).read
  -- No, up to 32 kHz: nb, and the running sum exceeds with no upper band
  pub no : (c : ℕ) (l : List Float) → Passed c l → rate c ≤ 32000 → (asked c l).answer ≡ false → ((asked c l).read ≡ nb c) × ((b : ℕ) → split c ≤ b → b < nb c → Keeps c l b)
  -- "0 at 48 kHz, where the answer is no"
  pub high : (c : ℕ) (l : List Float) → Passed c l → 32000 < rate c → asked c l ≡ told false 0
  -- The energies of a measurement, of any nf lines that pass 6, are taken, and the answer is the measurement's flag
  pub measured : (c : ℕ) (l : List Float) → T (valid c) → length l ≡ nf c → Each (λ x. T (passes6 x)) l
      → ((asked c (energies_of c l)).number ≡ accepted) × ((asked c (energies_of c l)).answer ≡ flag_of c (energies_of c l))
  -- "Refusals: 1, 5, then 7 over all energies before any adding"; beside them no, and 0
  pub no_config : (c : ℕ) (l : List Float) → largest < c → asked c l ≡ refusal refusals.bad_config 0
  pub bad_energies : (c : ℕ) (l : List Float) → c ≤ largest → (length l ≡ nb c → ⊥) → asked c l ≡ refusal refusals.bad_energies 0
  pub bad_energy : (c : ℕ) (l : List Float) → c ≤ largest → length l ≡ nb c → first passes7 l < length l → asked c l ≡ refusal refusals.bad_energy (first passes7 l)
  -- At each configuration, 30.0 in the first upper band and 1.0 below: no, with nb; one step above: yes, with that band. At 48 kHz no, and 0
  pub at_the_edge : map (λ c. asked c (edge c 0x41f00000)) configs ≡ map (λ c. told false (cond (leb (rate c) 32000) (nb c) 0)) configs
  pub above_it : map (λ c. asked c (edge c 0x41f00001)) configs ≡ map (λ c. cond (leb (rate c) 32000) (told true (split c + 1)) (told false 0)) configs
  -- 16.0 twice is above 30.0, with the second of the two: in the middle, and last
  pub middle : asked 1 (bands 0x3f800000 0 0x41800000 0x41800000 0 0) ≡ told true 62
  pub last : asked 1 (bands 0x3f800000 0 0x41800000 0 0 0x41800000) ≡ told true 64
  -- 30.0 in all, with the last: no. As many bands are read as where it stopped at the last
  pub never : asked 1 (bands 0x3f800000 0 0x41000000 0x41000000 0x41000000 0x40c00000) ≡ told false 64
  -- zeros of both signs do not exceed zero, and the last lower band is no upper one
  pub zeros : asked 1 (bands 0x80000000 0 0x80000000 0 0 0x80000000) ≡ told false 64
  pub last_lower : asked 1 (bands 0 0x3f800000 0 0 0 0) ≡ told false 64
  -- 2^127 twice overflows above 30.0 · 2^123. A lower sum that overflows, and 30.0 · 2^124, are exceeded by nothing
  pub upper_overflow : asked 1 (bands 0x7d000000 0 0x7f000000 0x7f000000 0 0) ≡ told true 62
  pub lower_overflow : asked 1 (bands 0x7f7fffff 0x7f7fffff 0x7f7fffff 0x7f7fffff 0x7f7fffff 0x7f7fffff) ≡ told false 64
  pub bound_overflow : asked 1 (bands 0x7d800000 0 0x7f7fffff 0x7f7fffff 0x7f7fffff 0x7f7fffff) ≡ told false 64
  -- 7 is tested of the bands that it would not have read: after the one that it would have stopped at, and at 48 kHz. Of two, the first is told
  pub behind_it : asked 1 (bands 0x3f800000 0 0x41f00001 0 0 0x7fc00000) ≡ refusal refusals.bad_energy 63
  pub unread : asked 4 (bands 0x3f800000 0 0 0 0 0x7f800000) ≡ refusal refusals.bad_energy 63
  pub two_bad : asked 1 (bands 0x3f800000 0xbf800000 0x41f00001 0 0 0x7fc00000) ≡ refusal refusals.bad_energy 59
  -- 1 before 5, 5 before 7: sixty NaNs at a configuration of 64 bands, at 48 kHz too, and 64 zeros at one of 60
  pub config_first : (l : List Float) → asked 20 l ≡ refusal refusals.bad_config 0
  pub length_first : asked 1 (replicate 60 nan) ≡ refusal refusals.bad_energies 0
  pub sixty : asked 9 (replicate 60 nan) ≡ refusal refusals.bad_energies 0
  pub sixty_four : asked 0 (replicate 64 zero32) ≡ refusal refusals.bad_energies 0
