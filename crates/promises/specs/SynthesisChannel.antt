-- The synthesis channel as a kind of channel, by the definitions that the contracts of `clear` and `frame` cite, and its demand 3. Definitions only.
use Rattle.std.specs.Prelude.{ℕ, ◌-◌, ◌≡◌, List, T, drop, take, replicate, Float}
use Rattle.std.proofs.Math.Option.{Option, some, none}
use Rattle.config.specs.Config.{nf, z}
use Rattle.refusals.specs.Refusals as refusals
use Rattle.synthesis.specs.declared.Channel.{Channel}
use Rattle.laws.specs.Numbers.{zero32}
use Rattle.synthesis_samples.specs.Samples.{places_of, samples_of, memory_of}
use Rattle.synthesis.specs.Synthesis.{Lent, Given, number, index, cleared, frames}
use Rattle.promises.specs.Sequence.{Kind, accepts, Demand3}

-- what the frame before has left (places nf + z to 2 nf - 1 of its own); where there was none, a memory of positive zeros
abbrev pub memory : ℕ → Option (List Float) → List Float
memory c none = replicate (nf c - z c) zero32
memory c (some f) = memory_of c f

-- THE DEFINITION's value on a configuration, the frame before and the frame: the samples of the frame's lines on that memory
abbrev pub value : ℕ → Option (List Float) → List Float → Given
value c f x = record { number = refusals.accepted; index = 0; samples = samples_of c (memory c f) x }

-- beside a refusal's number stands its index, and the lent slice is as it was
abbrev pub refusal : ℕ → Lent → Given
refusal n x = record { number = n; index = index n x; samples = x.samples }

abbrev pub synthesis : Kind
synthesis =
    record {
      Channel = Channel;
      Lent = Lent;
      Given = Given;
      Value = Float;
      own = λ x. x.lines;
      config = λ a. a.config;
      kept = λ a. a.memory;
      cleared = λ c. ((cleared c).number, (cleared c).channel);
      number = number;
      frames = frames;
      value = value;
      refusal = refusal;
    }

-- the last z samples: places nf - z to nf - 1
abbrev pub last : ℕ → List Float → List Float
last c s = drop (nf c - z c) s

pub record SynthesisDemand3 : Type 0 where
  pub sequence : Demand3 synthesis
  -- The last z samples of an accepted frame are of its own lines alone: places nf to nf + z - 1 of theirs, as they are.
  pub last_alone : (a : Channel) (f : Lent) → T (accepts synthesis a.config f)
      → last a.config (frames a f).0.samples ≡ take (z a.config) (drop (nf a.config) (places_of a.config f.lines))
  -- So two channels of one configuration, whatever their memories, agree on them already on the first accepted frame that they share (an empty claim where z is 0).
  pub last_agree : (a b : Channel) → a.config ≡ b.config
      → (f g : Lent) → f.lines ≡ g.lines → T (accepts synthesis a.config f) → T (accepts synthesis b.config g)
      → last a.config (frames a f).0.samples ≡ last b.config (frames b g).0.samples
