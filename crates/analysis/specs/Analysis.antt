-- Analysis: a frame to lines (`ModDiscreteCosTrans::run` of the encoder, but for its energies and flag), and the calls of a channel: `clear`, and a frame by value (`frame`) and in place (`frame_at`). Definitions only.
use Rattle.std.specs.Prelude.{not, cond, List, ◌++◌, ℕ, zero, suc, ◌-◌, ℤ, pos, eqb, length, get_or, replicate, Float, ⊤, Result}
use Rattle.laws.specs.Lists.{tab}
use Rattle.config.specs.Config.{valid, nf, z}
use Rattle.refusals.specs.declared.Refusal.{Refusal}
use Rattle.refusals.specs.declared.Answered.{Answered}
use Rattle.refusals.specs.Refusals as refusals
use Rattle.analysis_steps.specs.Buffer.{past_of}
use Rattle.analysis_lines.specs.Lines.{time_buffer, lines_of}
use Rattle.analysis.specs.declared.Channel.{Channel}

-- ---- THE DEFINITION, refusals aside
-- what is kept of the frame: places nf to 2 nf - z - 1 of its time buffer, then zeros
unfoldable pub kept_of : ℕ → List ℤ → List ℤ → List ℤ
kept_of c past x = past_of (nf c) (z c) (time_buffer c past x) ++ replicate (300 - (nf c - z c)) (pos 0)

-- ---- the channel
-- the one place that makes a channel
abbrev pub channel_of : ℕ → List ℤ → Channel
channel_of c s = record { config = c; samples = s }

-- its past: the first nf - z places of its samples
abbrev pub channel_past : Channel → List ℤ
channel_past ch = tab (nf ch.config - z ch.config) (λ k. get_or ch.samples k (pos 0))

-- a channel with nothing in its past
abbrev pub silent : ℕ → Channel
silent c = channel_of c (replicate 300 (pos 0))

-- ---- `clear`
-- what a clear gives: number, and a channel
pub record Cleared : Type 0 where
  pub number : ℕ
  pub channel : Channel

-- a number, and a channel of configuration c with nothing in its past
abbrev pub cleared_as : ℕ → ℕ → Cleared
cleared_as n c = record { number = n; channel = silent c }

-- what `clear` gives: its contract cites this
unfoldable pub cleared : ℕ → Cleared
cleared c = refusals.clearing cleared_as (valid c) c

-- ---- `frame`
-- what a call is lent
pub record Lent : Type 0 where
  pub input : List ℤ
  pub lines : List Float

-- what it gives beside the channel: number, and the lines' slice at its end
pub record Given : Type 0 where
  pub number : ℕ
  pub lines : List Float

-- the refusals, in the order of document 01's table
abbrev pub number : ℕ → Lent → ℕ
number c x =
    cond (not (valid c)) refusals.bad_config
    (cond (not (eqb (length x.input) (nf c))) refusals.bad_input
    (cond (not (eqb (length x.lines) (nf c))) refusals.bad_output refusals.accepted))

-- an accepted call, on a past and a frame
abbrev pub accepted : ℕ → List ℤ → List ℤ → Given × Channel
accepted c past x = (record { number = refusals.accepted; lines = lines_of c past x }, channel_of c (kept_of c past x))

-- a refused call writes nothing, and its channel is the one handed in
abbrev pub framed : ℕ → Channel → Lent → Given × Channel
framed zero ch x = accepted ch.config (channel_past ch) x.input
framed (suc n) ch x = (record { number = suc n; lines = x.lines }, ch)

-- what a frame does, on any channel: the contracts of `frame` and `frame_at` cite this
unfoldable pub frames : Channel → Lent → Given × Channel
frames ch x = framed (number ch.config x) ch x

-- ---- for the contracts
abbrev pub lent : List ℤ → List Float → Lent
lent x l = record { input = x; lines = l }

-- a clear's return, as the definition has it
abbrev pub cleared_by : Answered Channel → Cleared
cleared_by r = record { number = (refusals.told_by r.told).number; channel = r.channel }

-- a call's return and the lines' slice at its end, as the definition has them
abbrev pub outcome : Answered Channel → List Float → Given × Channel
outcome r l = (record { number = (refusals.told_by r.told).number; lines = l }, r.channel)

-- the same of a channel that stays where it is: its configuration c, and its samples at the call's end; r is what is returned
abbrev pub outcome_at : ℕ → Result ⊤ Refusal → List ℤ → List Float → Given × Channel
outcome_at c r s l = (record { number = (refusals.told_by r).number; lines = l }, channel_of c s)
