-- Document 02 §12, energies with a peak: of the definition that the contract of `measure` cites. A row for each sentence. Definitions only.
use Rattle.std.specs.Prelude.{ℕ, ◌+◌, ◌≤◌, ◌<◌, ◌≡◌, false, cond, ◌||◌, List, [], ◌∷◌, ◌++◌, T, eqb, length, get_or, replicate, Float}
use Rattle.std.specs.Float.{nan, binary32}
use Rattle.std.specs.Float.Ieee.{of_bits, lt}
use Rattle.laws.specs.Numbers.{zero32}
use Rattle.laws.specs.Greatest.{First}
use Rattle.config.specs.Config.{nb, edges}
use Rattle.refusals.specs.Refusals as refusals
use Rattle.measurement_steps.specs.Energy.{band_of}
use Rattle.measurement_steps.specs.Peak.{square, squares, peak}
use Rattle.measurement.specs.Measurement.{Lent, Given, refused_by, measures, lent}
use Rattle.promises.specs.Bare as bare

-- the product of line k of the frame
abbrev pub product : List Float → ℕ → Float
product l k = square (get_or l k nan)

-- line k is in band b of configuration c
abbrev pub InBand : ℕ → ℕ → ℕ → Type 0
InBand c b k = (get_or (edges c) b 0 ≤ k) × (k < get_or (edges c) (b + 1) 0)

-- line p of the frame l is the peak of band b: "the index, from line 0 of the frame, of its first line with the greatest line·line product"
pub record Peak (c : ℕ) (l : List Float) (b p : ℕ) : Type 0 where
  -- it lies in its band
  pub inside : InBand c b p
  -- its product is greater than that of each line of the band before it
  pub before : (k : ℕ) → InBand c b k → k < p → T (lt (product l k) (product l p))
  -- and no less than that of any line of the band
  pub most : (k : ℕ) → InBand c b k → lt (product l p) (product l k) ≡ false

-- a call, and what it gives, without the peaks
abbrev pub unpeaked : Lent → bare.Lent
unpeaked x = record { lines = x.lines; energies = x.energies }

abbrev pub without : Given → bare.Given
without g = record { number = g.number; index = g.index; flag = g.flag; energies = g.energies }

-- "the peaks' length is tested by 5, after the energies", so before 6: what is refused before stays, and what passed or was refused by 6 is refused by 5
abbrev pub tested : ℕ → ℕ
tested n = cond (eqb n refusals.accepted || eqb n refusals.bad_value) refusals.bad_energies n

-- forty lines for a measurement at configuration 10, whose last band, band 38, has lines 38 and 39: zero but these two, which have the bits x and y; and a room of n
-- peaks, all 9
abbrev pub ending : ℕ → ℕ → ℕ → Lent
ending x y n = lent (replicate 38 zero32 ++ (of_bits binary32 x ∷ of_bits binary32 y ∷ [])) (replicate 39 (of_bits binary32 0x3f800000)) (replicate n 9)

-- the last band's peak
abbrev pub last : ℕ → ℕ → ℕ
last x y = get_or (measures 10 (ending x y 39)).peaks 38 0

pub record Peaks : Type 0 where
  -- An accepted measurement gives a peak for each band: it lies in its band, its product is no less than any other's there, and greater than all before it.
  pub count : (c : ℕ) (x : Lent) → (measures c x).number ≡ refusals.accepted → length (measures c x).peaks ≡ nb c
  pub each : (c : ℕ) (x : Lent) → (measures c x).number ≡ refusals.accepted → (b : ℕ) → b < nb c → Peak c x.lines b (get_or (measures c x).peaks b 0)
  -- No other line is so.
  pub only : (c : ℕ) (l : List Float) (b p q : ℕ) → Peak c l b p → Peak c l b q → p ≡ q
  -- In the words that the loudest band's answer uses: counted from its band's first line, it is the `First` of the products of the band's lines.
  pub in_words : (c : ℕ) (x : Lent) → (measures c x).number ≡ refusals.accepted → (b : ℕ) → b < nb c
      → First (squares (band_of (edges c) x.lines b)) (peak (band_of (edges c) x.lines b))
      × (get_or (measures c x).peaks b 0 ≡ get_or (edges c) b 0 + peak (band_of (edges c) x.lines b))
  -- "Energies keep their bits", and so do flag, number and index: where the peaks' room is as long as it has to be, all but the peaks is what the call of before gave,
  -- of any lines and any other room.
  pub as_before : (c : ℕ) (x : Lent) → length x.peaks ≡ nb c → without (measures c x) ≡ bare.measures c (unpeaked x)
  -- "The peaks' length is tested by 5, after the energies": where it is wrong the call is refused, whatever the lines, and nothing is written.
  pub unfit : (c : ℕ) (x : Lent) → (length x.peaks ≡ nb c → ⊥) → measures c x ≡ refused_by (tested (bare.number c (unpeaked x))) 0 x
  -- A refusal touches neither area.
  pub untouched : (c : ℕ) (x : Lent) → ((measures c x).number ≡ refusals.accepted → ⊥) → ((measures c x).energies ≡ x.energies) × ((measures c x).peaks ≡ x.peaks)
  -- Two lines of a band: 1.0 and 2.0, the second, from line 0 of the frame.
  pub second : last 0x3f800000 0x40000000 ≡ 39
  -- Equal products, the first: 1.0 and -1.0; 2^60 twice.
  pub twins : last 0x3f800000 0xbf800000 ≡ 38
  pub at_the_bound : last 0x5d800000 0x5d800000 ≡ 38
  -- A band of zeros, of either sign: its first line.
  pub zeros : last 0x00000000 0x80000000 ≡ 38
  pub minus_zeros : last 0x80000000 0x00000000 ≡ 38
  -- By the product, not by the line: those of 2^-80 and 2^-79 are both 0, and so are those of subnormal lines.
  pub vanishing : last 0x17800000 0x18000000 ≡ 38
  pub subnormal : last 0x00000001 0x007fffff ≡ 38
  -- A room of peaks one short, one long or none, with a line above 2^60: 5, and the room as it was.
  pub short : measures 10 (ending 0x5d800001 0 38) ≡ refused_by refusals.bad_energies 0 (ending 0x5d800001 0 38)
  pub long : measures 10 (ending 0x5d800001 0 40) ≡ refused_by refusals.bad_energies 0 (ending 0x5d800001 0 40)
  pub empty : measures 10 (ending 0x5d800001 0 0) ≡ refused_by refusals.bad_energies 0 (ending 0x5d800001 0 0)
