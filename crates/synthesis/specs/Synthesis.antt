-- Synthesis: one frame (`ModDiscreteCosTrans::run` of the decoder), and the calls of a channel: `clear`, and a frame by value (`frame`) and in place (`frame_at`). Definitions only.
use Rattle.std.specs.Prelude.{ℕ, zero, suc, ◌-◌, not, cond, List, ◌++◌, ltb, eqb, length, get_or, replicate, Float, ⊤, Result}
use Rattle.laws.specs.Lists.{tab, first}
use Rattle.laws.specs.Passes.{passes6}
use Rattle.config.specs.Config.{valid, nf, z, ne}
use Rattle.refusals.specs.declared.Verdict.{Verdict}
use Rattle.refusals.specs.declared.Refusal.{Refusal}
use Rattle.refusals.specs.declared.Answered.{Answered}
use Rattle.refusals.specs.Refusals as refusals
use Rattle.laws.specs.Numbers.{zero32}
use Rattle.synthesis_samples.specs.Samples.{samples_of, memory_of}
use Rattle.synthesis.specs.declared.Channel.{Channel}

-- ---- THE DEFINITION, refusals aside
-- as a channel keeps it: +0.0 at the places that the configuration has no use for
unfoldable pub kept_of : ℕ → List Float → List Float
kept_of c x = memory_of c x ++ replicate (300 - (nf c - z c)) zero32

-- ---- the channel
-- the one place that makes a channel
abbrev pub channel_of : ℕ → List Float → Channel
channel_of c m = record { config = c; memory = m }

-- its past: the first nf - z places of its memory
abbrev pub channel_past : Channel → List Float
channel_past ch = tab (nf ch.config - z ch.config) (λ k. get_or ch.memory k zero32)

-- a channel with nothing in its past
abbrev pub silent : ℕ → Channel
silent c = channel_of c (replicate 300 zero32)

-- ---- `clear`
-- what a clear gives: number, and a channel
pub record Cleared : Type 0 where
  pub number : ℕ
  pub channel : Channel

-- a number, and a channel of configuration c with nothing in its past
abbrev pub cleared_as : ℕ → ℕ → Cleared
cleared_as n c = record { number = n; channel = silent c }

-- what `clear` gives: its contract cites this
unfoldable pub cleared : ℕ → Cleared
cleared c = refusals.clearing cleared_as (valid c) c

-- ---- `frame`
-- what a call is lent
pub record Lent : Type 0 where
  pub lines : List Float
  pub samples : List Float

-- what it gives beside the channel: number and index, and the samples' slice at its end
pub record Given : Type 0 where
  pub number : ℕ
  pub index : ℕ
  pub samples : List Float

-- the refusals, in the order of document 01's table
abbrev pub number : ℕ → Lent → ℕ
number c x =
    cond (not (valid c)) refusals.bad_config
    (cond (not (eqb (length x.lines) (ne c))) refusals.bad_input
    (cond (not (eqb (length x.samples) (nf c))) refusals.bad_output
    (cond (ltb (first passes6 x.lines) (length x.lines)) refusals.bad_value refusals.accepted)))

-- the index that goes with a number: for 6 the first line that does not pass
abbrev pub index : ℕ → Lent → ℕ
index r x = cond (eqb r refusals.bad_value) (first passes6 x.lines) 0

-- an accepted call, on a past and a frame of lines
abbrev pub accepted : ℕ → List Float → List Float → Given × Channel
accepted c past x = (record { number = refusals.accepted; index = 0; samples = samples_of c past x }, channel_of c (kept_of c x))

-- a refused call writes nothing, and its channel is the one handed in
abbrev pub framed : ℕ → Channel → Lent → Given × Channel
framed zero ch x = accepted ch.config (channel_past ch) x.lines
framed (suc n) ch x = (record { number = suc n; index = index (suc n) x; samples = x.samples }, ch)

-- what a frame does, on any channel: the contracts of `frame` and `frame_at` cite this
unfoldable pub frames : Channel → Lent → Given × Channel
frames ch x = framed (number ch.config x) ch x

-- ---- for the contracts
abbrev pub lent : List Float → List Float → Lent
lent x s = record { lines = x; samples = s }

-- the number and the index
abbrev pub verdict : ℕ → Lent → Verdict
verdict c x = record { number = number c x; index = index (number c x) x }

-- a clear's return, as the definition has it
abbrev pub cleared_by : Answered Channel → Cleared
cleared_by r = record { number = (refusals.told_by r.told).number; channel = r.channel }

-- what a call gives beside the channel, by its verdict and the samples' slice at its end
abbrev pub given : Verdict → List Float → Given
given v s = record { number = v.number; index = v.index; samples = s }

-- a call's return and the samples' slice at its end, as the definition has them
abbrev pub outcome : Answered Channel → List Float → Given × Channel
outcome r s = (given (refusals.told_by r.told) s, r.channel)

-- the same of a channel that stays where it is: its configuration c, and its memory at the call's end; r is what is returned
abbrev pub outcome_at : ℕ → Result ⊤ Refusal → List Float → List Float → Given × Channel
outcome_at c r m s = (given (refusals.told_by r) s, channel_of c m)
