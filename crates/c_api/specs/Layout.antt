-- The entries' answers in structs with C's layout: what C is told of each. Definitions only.
use Rattle.std.specs.Prelude.{Bool, true, false, ℕ, List, ℤ, Float, Result}
use Rattle.std.specs.Float.{binary32}
use Rattle.std.specs.Float.Ieee.{of_bits}
use Rattle.refusals.specs.declared.Refusal.{Refusal}
use Rattle.refusals.specs.declared.Verdict.{Verdict}
use Rattle.refusals.specs.declared.Answered.{Answered}
use Rattle.refusals.specs.Refusals.{told_by}
use Rattle.analysis.specs.Analysis as an
use Rattle.analysis.specs.declared.Channel as analysis
use Rattle.measurement.specs.Measurement as ms
use Rattle.synthesis.specs.Synthesis as sy
use Rattle.synthesis.specs.declared.Channel as synthesis
use Rattle.loudest.specs.Loudest.{Heard}
use Rattle.loudest.specs.declared.Loudest.{Loudest}
use Rattle.loudest.specs.declared.Loudest.TheVariants.{Quiet, Loud}
use Rattle.near_nyquist.specs.Sooner as sooner
use Rattle.c_api.specs.declared.AnalysisAnswered.{AnalysisAnswered}
use Rattle.c_api.specs.declared.SynthesisCleared.{SynthesisCleared}
use Rattle.c_api.specs.declared.SynthesisFramed.{SynthesisFramed}
use Rattle.c_api.specs.declared.Measured.{Measured}
use Rattle.c_api.specs.declared.LoudestHeard.{LoudestHeard}
use Rattle.c_api.specs.declared.Asked.{Asked}

-- ---- channels
-- the number of an answer, and its channel
abbrev pub analysis_answered : Answered analysis.Channel → AnalysisAnswered
analysis_answered a = record { number = (told_by a.told).number; channel = a.channel }

abbrev pub synthesis_answered : Answered synthesis.Channel → SynthesisCleared
synthesis_answered a = record { number = (told_by a.told).number; channel = a.channel }

-- what a clear gives, as the definitions have it
abbrev pub analysis_cleared : an.Cleared → AnalysisAnswered
analysis_cleared c = record { number = c.number; channel = c.channel }

abbrev pub synthesis_cleared : sy.Cleared → SynthesisCleared
synthesis_cleared c = record { number = c.number; channel = c.channel }

-- a frame's return and its output's slice at its end, as the definitions have them
abbrev pub analysis_outcome : AnalysisAnswered → List Float → an.Given × analysis.Channel
analysis_outcome r l = (record { number = r.number; lines = l }, r.channel)

abbrev pub synthesis_outcome : SynthesisFramed → List Float → sy.Given × synthesis.Channel
synthesis_outcome r s = (record { number = r.number; index = r.index; samples = s }, r.channel)

-- the same of a channel that stays where it is: its configuration c, and its array at the call's end
abbrev pub analysis_outcome_at : ℕ → ℕ → List ℤ → List Float → an.Given × analysis.Channel
analysis_outcome_at c n s l = (record { number = n; lines = l }, an.channel_of c s)

abbrev pub synthesis_outcome_at : ℕ → Verdict → List Float → List Float → sy.Given × synthesis.Channel
synthesis_outcome_at c v m s = (sy.given v s, sy.channel_of c m)

-- ---- the measurement
abbrev pub measured : Result Bool Refusal → Measured
measured r = let v = told_by r in record { number = v.number; index = v.index; flag = ms.flagged r }

-- its return and the slices of energies and peaks at its end, as the definition has them
abbrev pub measured_outcome : Measured → List Float → List ℕ → ms.Given
measured_outcome r e p = record { number = r.number; index = r.index; flag = r.flag; energies = e; peaks = p }

-- ---- the loudest band: band and product are 0 where it is quiet
abbrev pub is_loud : Loudest → Bool
is_loud Quiet = false
is_loud (Loud b p) = true

abbrev pub band_of : Loudest → ℕ
band_of Quiet = 0
band_of (Loud b p) = b

abbrev pub product_of : Loudest → Float
product_of Quiet = of_bits binary32 0
product_of (Loud b p) = p

abbrev pub loudest_heard : Heard → LoudestHeard
loudest_heard h = record {
  number = h.number;
  index = h.index;
  loud = is_loud h.loudest;
  band = band_of h.loudest;
  product = product_of h.loudest;
}

-- ---- nearness to the Nyquist frequency
abbrev pub nyquist_asked : sooner.Asked → Asked
nyquist_asked a = record { number = a.number; index = a.index; answer = a.answer; read = a.read }
