-- Document 02 §5, transform and measurement apart: the two calls in turn against the combined call of before, and demand 3 of the two. A row for each sentence.
-- A measurement has no channel: so the calls on a channel are clears and frames to lines, and measurements, made, refused or left out, may stand anywhere between.
-- Definitions only.
use Rattle.std.specs.Prelude.{ℕ, zero, suc, ◌≡◌, Bool, false, List, ◌∷◌, ◌++◌, ℤ, T, length, replicate, Float}
use Rattle.std.proofs.Math.Option.{Option, some}
use Rattle.std.specs.Float.{binary32}
use Rattle.std.specs.Float.Ieee.{of_bits}
use Rattle.laws.specs.Numbers.{zero32}
use Rattle.laws.specs.Passes.{passes6}
use Rattle.config.specs.Config.{nb}
use Rattle.refusals.specs.Refusals as refusals
use Rattle.analysis.specs.declared.Channel.{Channel}
use Rattle.analysis_lines.specs.Lines.{lines_of}
use Rattle.analysis.specs.Analysis.{Lent, frames, channel_past, kept_of, channel_of, lent}
use Rattle.measurement.specs.Measurement as measurement
use Rattle.measurement.specs.Measurement.{peaks_of, refused_by, measures}
use Rattle.bounds.specs.Within.{Each}
use Rattle.promises.specs.Sequence.{Call, frame, fresh, clears, accepts, after, recall, Shared}
use Rattle.promises.specs.AnalysisChannel.{analysis, value}
use Rattle.promises.specs.Combined as combined
use Rattle.promises.specs.Flags.{edge}
use Rattle.promises.specs.NoOverflow.{Sample, FromClear, OnAny}

-- ---- both in turn
-- what the two give beside the channel: number and index of the first that is refused, the measurement's flag, and the lent slices at their end
pub record Given : Type 0 where
  pub number : ℕ
  pub index : ℕ
  pub flag : Bool
  pub lines : List Float
  pub energies : List Float
  pub peaks : List ℕ

-- the second call, by the number of the first: it is made where that was accepted
abbrev pub second : ℕ → ℕ → measurement.Lent → measurement.Given
second zero c x = measures c x
second (suc n) c x = refused_by (suc n) 0 x

-- of the first call the lines, of the second all else
abbrev pub joined : List Float → measurement.Given → Given
joined l m = record { number = m.number; index = m.index; flag = m.flag; lines = l; energies = m.energies; peaks = m.peaks }

-- "the second on the first's lines unchanged and the channel's configuration"; p is the room for the peaks
abbrev pub in_turn : Channel → combined.Lent → List ℕ → Given × Channel
in_turn a x p =
    let f = frames a (lent x.input x.lines) in
    (joined f.0.lines (second f.0.number a.config (measurement.lent f.0.lines x.energies p)), f.1)

-- "the old answer", which had no index and no peaks: p stands for these
abbrev pub aged : List ℕ → combined.Given × Channel → Given × Channel
aged p g = (record { number = g.0.number; index = 0; flag = g.0.flag; lines = g.0.lines; energies = g.0.energies; peaks = p }, g.1)

abbrev pub old : Channel → combined.Lent → List ℕ → Given × Channel
old a x p = aged p (combined.frames a x)

-- an accepted frame whose measurement is refused by 5: its lines are written and its channel has moved on, and the rooms of the measurement are as they were
abbrev pub unmeasured : Channel → combined.Lent → List ℕ → Given × Channel
unmeasured a x p = (
  record { number = refusals.bad_energies; index = 0; flag = false; lines = lines_of a.config (channel_past a) x.input; energies = x.energies; peaks = p },
  channel_of a.config (kept_of a.config (channel_past a) x.input),
)

-- all of some lines pass 6, at any configuration
abbrev pub Pass : ℕ → List Float → Type 0
Pass c l = Each (λ x. T (passes6 x)) l

-- the second call, on some lines and whatever areas it is lent, does not give 6
abbrev pub Never6 : ℕ → List Float → Type 0
Never6 c l = (e : List Float) (p : List ℕ) → (measures c (measurement.lent l e p)).number ≡ refusals.bad_value → ⊥

-- what an accepted pair gives, by its lines
abbrev pub paired : ℕ → List Float → Given
paired c l = joined l (measurement.accepted c l)

-- THE DEFINITION's value of the pair on a configuration, the frame before and the frame: the value of its lines, and energies, peaks and flag of these
abbrev pub valued : ℕ → Option (List ℤ) → List ℤ → Given
valued c f x = paired c (value c f x).lines

-- sixty lines for a measurement at configuration 0: zero but lines 7 and 20 with the bits b; and rooms of n energies, all 1.0, and of 60 peaks
abbrev pub loud : ℕ → ℕ → measurement.Lent
loud b n = measurement.lent (replicate 7 zero32 ++ (of_bits binary32 b ∷ replicate 12 zero32 ++ (of_bits binary32 b ∷ replicate 39 zero32))) (replicate n (of_bits binary32 0x3f800000)) (replicate 60 9)

pub record Apart : Type 0 where
  -- "doing both in turn .. equals the old answer where both accept": number, flag, lines, energies, and the whole channel; of any channel and any frame. Beside it
  -- stand the peaks of its lines.
  pub in_turn_lem : (a : Channel) (x : combined.Lent) (p : List ℕ) → (in_turn a x p).0.number ≡ refusals.accepted
      → in_turn a x p ≡ old a x (peaks_of a.config (lines_of a.config (channel_past a) x.input))
  -- "every line the first call gives, on any samples and any past, is shown to pass 6": of any channel, and after any calls from a clear.
  pub lines_pass : OnAny Pass
  pub lines_pass_after : FromClear Pass
  -- So the second call never gives 6 on them.
  pub never_6 : OnAny Never6
  -- So the pair, with a room of nb peaks, accepts exactly where the old call did, and gives its number where that refused; of other areas of any lengths.
  pub accepts_alike : (a : Channel) → Each Sample a.samples → (x : combined.Lent) → Each Sample x.input → (p : List ℕ) → length p ≡ nb a.config
      → (in_turn a x p).0.number ≡ (old a x p).0.number
  -- Where the first call refuses, all is as the old call left it: nothing is written, and the channel is the one handed in.
  pub first_refused : (a : Channel) (x : combined.Lent) (p : List ℕ) → ((frames a (lent x.input x.lines)).0.number ≡ refusals.accepted → ⊥) → in_turn a x p ≡ old a x p
  -- The difference to the old call: where that refused the energies' length, the frame is accepted now. Its lines are written and its channel has moved on; the
  -- measurement alone is refused, and its areas are as they were.
  pub second_refused : (a : Channel) (x : combined.Lent) (p : List ℕ) → (old a x p).0.number ≡ refusals.bad_energies → in_turn a x p ≡ unmeasured a x p
  -- And so where the old call accepted and the peaks' length is wrong.
  pub peaks_refused : (a : Channel) (x : combined.Lent) (p : List ℕ) → (old a x p).0.number ≡ refusals.accepted → (length p ≡ nb a.config → ⊥)
      → in_turn a x p ≡ unmeasured a x p
  -- "Demands 2 and 3 speak of the pair so done": over any calls on a channel that an accepted clear gave, what an accepted pair gives is the definition's value on
  -- the configuration of the last accepted clear, that frame, and the frame accepted before it since that clear, with or without a measurement.
  pub by_definition : (c : ℕ) (a : Channel) → clears analysis c ≡ some a → (qs : List (Call Lent)) (x : combined.Lent) (p : List ℕ)
      → (in_turn (after analysis a qs) x p).0.number ≡ refusals.accepted
      → (in_turn (after analysis a qs) x p).0 ≡ valued (recall analysis (fresh c) qs).config (recall analysis (fresh c) qs).before x.input
  -- Two channels of one configuration, whatever their pasts, from the first accepted frame that they share on, while they share every accepted frame: what
  -- accepted pairs on a frame that they share give is the same, bit for bit and peak for peak.
  pub agreement : (a b : Channel) → a.config ≡ b.config
      → (f g : Lent) → f.input ≡ g.input → T (accepts analysis a.config f) → T (accepts analysis b.config g)
      → (qs rs : List (Call Lent)) → Shared analysis a.config qs rs
      → (x y : combined.Lent) (p q : List ℕ) → x.input ≡ y.input
      → (in_turn (after analysis a (frame f ∷ qs)) x p).0.number ≡ refusals.accepted → (in_turn (after analysis b (frame g ∷ rs)) y q).0.number ≡ refusals.accepted
      → (in_turn (after analysis a (frame f ∷ qs)) x p).0 ≡ (in_turn (after analysis b (frame g ∷ rs)) y q).0
  -- "6 now also applies to the second call's lines, tested last", on each side of its edges. Two lines of 2^60 pass.
  pub at_the_bound : (measures 0 (loud 0x5d800000 60)).number ≡ refusals.accepted
  -- One bit more in two lines: 6, with the first of them, and both rooms as they were.
  pub above_it : measures 0 (loud 0x5d800001 60) ≡ refused_by refusals.bad_value 7 (loud 0x5d800001 60)
  -- The same with a room that is one short: 5.
  pub tested_last : measures 0 (loud 0x5d800001 59) ≡ refused_by refusals.bad_energies 0 (loud 0x5d800001 59)
  -- Zero lines, in a room of energies that would be flagged: no flag. The flag is of the energies measured.
  pub own_flag : (measures 0 (measurement.lent (replicate 60 zero32) (edge 0 0x41f00001) (replicate 60 9))).flag ≡ false
