-- Document 02 §13, no frame overflows: of the definitions that the contracts cite, and of demand 3's own sequences of calls. A row for each sentence. Definitions only.
use Rattle.std.specs.Prelude.{ℕ, ◌^◌, ◌≡◌, false, List, [], ◌∷◌, ℤ, pos, negsuc, T, length, get_or, replicate, Float}
use Rattle.std.proofs.Math.Option.{some}
use Rattle.std.specs.Float.{nan, inf, binary32}
use Rattle.std.specs.Float.Ieee.{of_bits, of_int}
use Rattle.std.specs.Int.{w16}
use Rattle.std.proofs.Common.{SFits}
use Rattle.laws.specs.Numbers.{zero32}
use Rattle.laws.specs.Passes.{passes6, passes7}
use Rattle.complex.specs.declared.Complex.{Complex}
use Rattle.complex.specs.Complex.{parts}
use Rattle.columns.specs.Column.{col, five}
use Rattle.config.specs.Config.{valid, nf}
use Rattle.refusals.specs.Refusals as refusals
use Rattle.laws.specs.Exact.{finite}
use Rattle.analysis.specs.declared.Channel.{Channel}
use Rattle.analysis.specs.Analysis.{Lent, cleared, frames, lent}
use Rattle.measurement.specs.Measurement.{energies_of}
use Rattle.synthesis.specs.declared.Channel as synthesis_channel
use Rattle.synthesis.specs.Synthesis as synthesis_calls
use Rattle.loudest.specs.Loudest.{heard, paper}
use Rattle.frame_file.specs.File.{contents}
use Rattle.listing.specs.Listing.{framed, measured}
use Rattle.bounds.specs.Within.{Within, Each}
use Rattle.promises.specs.Sequence.{Call, clear, frame, clears, after}
use Rattle.promises.specs.AnalysisChannel.{analysis}
use Rattle.promises.specs.SynthesisChannel.{synthesis}

-- ---- the words
-- a 16-bit integer, from -32768 to 32767: what the checker knows of every `i16`, so of every sample that a caller's slice or a channel's array can hold
abbrev pub Sample : ℤ → Type 0
Sample s = SFits w16 s

-- a call whose frame, where it has one, is of such samples
abbrev pub Sampled : Call Lent → Type 0
Sampled (clear c) = Unit
Sampled (frame x) = Each Sample x.input

-- "finite and at most 2^30 in magnitude"
abbrev pub Line : Float → Type 0
Line x = Within (2 ^ 30) 1 x

-- "finite, not below zero and at most 2^61": what passes 7 is finite and not below zero
abbrev pub Energy : Float → Type 0
Energy x = T (passes7 x) × Within (2 ^ 61) 1 x

abbrev pub Finite : Float → Type 0
Finite x = T (finite x)

-- of the lines of an accepted frame, at its configuration: the lines, the energies that a measurement gives of them, and that the loudest band takes these
abbrev pub Lines : ℕ → List Float → Type 0
Lines c l = Each Line l

abbrev pub Energies : ℕ → List Float → Type 0
Energies c l = Each Energy (energies_of c l)

abbrev pub Hears : ℕ → List Float → Type 0
Hears c l = (paper (heard c (energies_of c l))).number ≡ refusals.accepted

-- the numbers that the listing is told along frames, as `frame_lines` goes through them: each frame's, its measurement's, and the loudest band's on its energies
abbrev pub numbers : Channel → List (List ℤ) → List ℕ
numbers a [] = []
numbers a (x ∷ xs) = (framed a x).0.number ∷ (measured a x).number ∷ (paper (heard a.config (measured a x).energies)).number ∷ numbers (framed a x).1 xs

-- P holds of the configuration and the lines of an accepted frame, "for any samples and any history from a clear": after any calls at all, as `by_definition` of
-- demand 3 has them
abbrev pub FromClear : (ℕ → List Float → Type 0) → Type 0
FromClear P = (c : ℕ) (a : Channel) → clears analysis c ≡ some a → (qs : List (Call Lent)) → Each Sampled qs → (x : Lent) → Each Sample x.input
    → (frames (after analysis a qs) x).0.number ≡ refusals.accepted → P (after analysis a qs).config (frames (after analysis a qs) x).0.lines

-- and on any channel, whatever samples it holds
abbrev pub OnAny : (ℕ → List Float → Type 0) → Type 0
OnAny P = (a : Channel) → Each Sample a.samples → (x : Lent) → Each Sample x.input → (frames a x).0.number ≡ refusals.accepted → P a.config (frames a x).0.lines

pub record NoOverflow : Type 0 where
  -- "every line is finite and at most 2^30 in magnitude"
  pub lines : FromClear Lines
  pub lines_anywhere : OnAny Lines
  -- "every energy finite, not below zero and at most 2^61"
  pub energies : FromClear Energies
  pub energies_anywhere : OnAny Energies
  -- So the loudest band, told the frame's configuration, never refuses the energies of an accepted frame.
  pub heard_anywhere : OnAny Hears
  -- So in the listing of a file of any bytes neither a frame nor its lines nor its energies are refused.
  pub listed : (c : ℕ) → T (valid c) → (bytes : List ℕ) → Each (λ n. n ≡ refusals.accepted) (numbers (cleared c).channel (contents c bytes).frames)
  -- The energies of any nf lines that pass 6 pass 7, since a line's square is at most 2^120; and the loudest band, told that configuration, takes them.
  pub measured : (c : ℕ) → T (valid c) → (l : List Float) → length l ≡ nf c → Each (λ x. T (passes6 x)) l → Each (λ x. T (passes7 x)) (energies_of c l)
  pub measured_heard : (c : ℕ) → T (valid c) → (l : List Float) → length l ≡ nf c → Each (λ x. T (passes6 x)) l → (paper (heard c (energies_of c l))).number ≡ refusals.accepted
  -- "in synthesis, for lines that pass 6 with any history from a clear, every sample .. is finite": a frame with another line is refused
  pub samples : (c : ℕ) (a : synthesis_channel.Channel) → clears synthesis c ≡ some a → (qs : List (Call synthesis_calls.Lent)) (x : synthesis_calls.Lent)
      → (synthesis_calls.frames (after synthesis a qs) x).0.number ≡ refusals.accepted → Each Finite (synthesis_calls.frames (after synthesis a qs) x).0.samples
  -- "and all memory"
  pub memory : (c : ℕ) (a : synthesis_channel.Channel) → clears synthesis c ≡ some a → (qs : List (Call synthesis_calls.Lent)) → Each Finite (after synthesis a qs).memory

-- ---- smaller bounds would be false
-- sixty samples of -32768, with room for the lines of configuration 0
abbrev pub lowest : Lent
lowest = lent (replicate 60 (negsuc 32767)) (replicate 60 zero32)

-- line 0 and energy 0 of that frame, on a channel right after a clear
abbrev pub line0 : Float
line0 = get_or (frames (cleared 0).channel lowest).0.lines 0 nan

abbrev pub energy0 : Float
energy0 = get_or (energies_of 0 (frames (cleared 0).channel lowest).0.lines) 0 nan

-- whole numbers as parts
abbrev pub both : ℤ → ℤ → Complex
both r i = parts (of_int binary32 r) (of_int binary32 i)

pub record Reached : Type 0 where
  -- It is false that every line is at most 2^16 in magnitude.
  pub line_above : Within (2 ^ 16) 1 line0 → ⊥
  -- It is false that every energy is at most 2^32.
  pub energy_above : Within (2 ^ 32) 1 energy0 → ⊥
  -- Of a line of 2^64 and 59 zeros, which are finite, energy 0 is infinite: it is false that the energies of any finite lines pass 7.
  pub square_is : get_or (energies_of 0 (of_bits binary32 0x5f800000 ∷ replicate 59 zero32)) 0 nan ≡ inf false
  -- In radix 5 a column of 1, and of 2 where it is twiddled, comes to 17 under twiddles of 1, in each part: it is false that `fives` holds with 2^4.
  pub column_is : (five (both (pos 1) (pos 1)) (both (pos 1) (pos 1)) (col (both (pos 1) (pos 1) ∷ both (pos 2) (negsuc 1) ∷ both (pos 2) (negsuc 1) ∷ both (pos 2) (pos 2) ∷ both (pos 2) (pos 2) ∷ [])) 1).r ≡ of_int binary32 (pos 17)
