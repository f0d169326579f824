-- The analysis channel as a kind of channel, by the definitions that the contracts of `clear` and `frame` cite. Definitions only.
use Rattle.std.specs.Prelude.{ℕ, List, ◌++◌, ℤ, pos, drop, replicate, Float}
use Rattle.std.proofs.Math.Option.{Option, some, none}
use Rattle.config.specs.Config.{nf, z}
use Rattle.refusals.specs.Refusals as refusals
use Rattle.analysis.specs.declared.Channel.{Channel}
use Rattle.analysis_lines.specs.Lines.{mdct}
use Rattle.analysis.specs.Analysis.{Lent, Given, number, cleared, frames}
use Rattle.promises.specs.Sequence.{Kind}

-- the frame before; where there was none, a frame of zero samples
abbrev pub previous : ℕ → Option (List ℤ) → List ℤ
previous c none = replicate (nf c) (pos 0)
previous c (some f) = f

-- the time buffer: of the frame before its last nf - z samples (all but its first z), then the frame, then z zeros
abbrev pub buffer : ℕ → List ℤ → List ℤ → List ℤ
buffer c f x = drop (z c) f ++ x ++ replicate (z c) (pos 0)

-- what an accepted call gives, by its lines
abbrev pub given : List Float → Given
given l = record { number = refusals.accepted; lines = l }

-- THE DEFINITION's value on a configuration, the frame before and the frame: the lines are fold, DCT and gain of that time buffer
abbrev pub value : ℕ → Option (List ℤ) → List ℤ → Given
value c f x = given (mdct c (buffer c (previous c f) x))

-- beside a refusal's number the lent slice is as it was
abbrev pub refusal : ℕ → Lent → Given
refusal n x = record { number = n; lines = x.lines }

abbrev pub analysis : Kind
analysis =
    record {
      Channel = Channel;
      Lent = Lent;
      Given = Given;
      Value = ℤ;
      own = λ x. x.input;
      config = λ a. a.config;
      kept = λ a. a.samples;
      cleared = λ c. ((cleared c).number, (cleared c).channel);
      number = number;
      frames = frames;
      value = value;
      refusal = refusal;
    }
