-- The combined call of document 01, a frame to lines, energies and flag at once, which document 02 §5 took apart. No contract cites it any more: it is what the
-- two calls in turn are held to. Definitions only.
use Rattle.std.specs.Prelude.{ℕ, zero, suc, Bool, false, not, cond, List, ℤ, eqb, length, Float}
use Rattle.config.specs.Config.{valid, nf, nb}
use Rattle.refusals.specs.Refusals as refusals
use Rattle.analysis_lines.specs.Lines.{lines_of}
use Rattle.analysis.specs.declared.Channel.{Channel}
use Rattle.analysis.specs.Analysis.{kept_of, channel_of, channel_past}
use Rattle.measurement.specs.Measurement.{energies_of, flag_of}

-- what a call was lent
pub record Lent : Type 0 where
  pub input : List ℤ
  pub lines : List Float
  pub energies : List Float

-- what it gave beside the channel: number and flag, and the lent slices at its end
pub record Given : Type 0 where
  pub number : ℕ
  pub flag : Bool
  pub lines : List Float
  pub energies : List Float

-- the refusals, in the order of document 01's table
abbrev pub number : ℕ → Lent → ℕ
number c x =
    cond (not (valid c)) refusals.bad_config
    (cond (not (eqb (length x.input) (nf c))) refusals.bad_input
    (cond (not (eqb (length x.lines) (nf c))) refusals.bad_output
    (cond (not (eqb (length x.energies) (nb c))) refusals.bad_energies refusals.accepted)))

-- an accepted call, on a past and a frame
abbrev pub accepted : ℕ → List ℤ → List ℤ → Given × Channel
accepted c past x = (
  record {
    number = refusals.accepted;
    flag = flag_of c (energies_of c (lines_of c past x));
    lines = lines_of c past x;
    energies = energies_of c (lines_of c past x);
  },
  channel_of c (kept_of c past x),
)

-- a refused call wrote nothing, and its channel was the one handed in
abbrev pub framed : ℕ → Channel → Lent → Given × Channel
framed zero ch x = accepted ch.config (channel_past ch) x.input
framed (suc n) ch x = (record { number = suc n; flag = false; lines = x.lines; energies = x.energies }, ch)

-- what a frame did, on any channel
unfoldable pub frames : Channel → Lent → Given × Channel
frames ch x = framed (number ch.config x) ch x
