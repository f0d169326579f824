-- Demand 3 of synthesis: what its definitions owe of a single call, and the last z samples. A channel's array holds what the frame accepted last has left, and
-- zeros after it. Assumes nothing.
use Prim.Native.Nat.{ℕ, ◌-◌}
use mathlib.Core.Path.{◌≡◌, refl, sym, ap, ap₂, ◌∙◌}
use mathlib.Core.Bool.{not, cond}
use mathlib.Core.Option.{Option, some, none}
use mathlib.Core.List.{List, ◌++◌}
use native.Mathlib.Omega.{arith}
use lib.Dec.{T, eqb, ltb}
use lib.ListN.{length, get_or, take, drop, replicate, length-replicate}
use lib.Ieee.{Float}
use Rattle.laws.specs.Lists.{tab, first}
use Rattle.laws.specs.Passes.{passes6}
use Rattle.laws.proofs.Lists.{length-tab, take-tab, tab-at}
use Rattle.config.specs.Config.{valid, nf, z, ne}
use Rattle.config.proofs.Sound.{sound}
use Rattle.refusals.proofs.Clears.{clearing-map}
use Rattle.synthesis.specs.declared.Channel.{Channel}
use Rattle.laws.specs.Numbers.{zero32}
use Rattle.synthesis.proofs.Next.{length-memory_of, last-samples}
use Rattle.synthesis_samples.specs.Samples.{places_of, samples_of, memory_of}
use Rattle.synthesis.specs.Synthesis.{Cleared, Lent, Given, kept_of, silent, cleared_as, cleared, framed, frames}
use Rattle.promises.specs.Sequence.{accepts}
use Rattle.promises.specs.SynthesisChannel.{memory, synthesis, last, SynthesisDemand3}
use Rattle.promises.proofs.Zeros.{take-replicate}
use Rattle.promises.proofs.Law.{Fits, Lawful, demand3, fits, taken}

-- the array after a frame
abbrev keeps : ℕ → Option (List Float) → List Float
keeps c none = replicate 300 zero32
keeps c (some f) = memory_of c f ++ replicate (300 - (nf c - z c)) zero32

frame_kept : (a : Channel) (x : Lent) → Fits ne a.config x.lines → (framed 0 a x).1.memory ≡ keeps a.config (some x.lines)
unfolding kept_of
frame_kept a x f = refl

-- the past that an array holds: its first nf - z places
abbrev past : ℕ → List Float → List Float
past c s = tab (nf c - z c) (λ k. get_or s k zero32)

-- what the array holds of a frame is the definition's memory
read_none : (c : ℕ) → T (valid c) → past c (keeps c none) ≡ memory c none
read_none c v =
    let o = sound c v in
    let r = length-replicate 300 zero32 in
    sym (take-tab (nf c - z c) (replicate 300 zero32) zero32 (omega arith)) ∙ take-replicate zero32 (nf c - z c) 300 (omega arith)

read_some : (c : ℕ) (f : List Float) → Fits ne c f → past c (keeps c (some f)) ≡ memory c (some f)
read_some c f h = tab-at (memory_of c f) (replicate (300 - (nf c - z c)) zero32) zero32 (nf c - z c) (length-memory_of c h.is_valid f h.length-is)

-- an accepted call, on a memory and lines
abbrev given : ℕ → List Float → List Float → Given
given c m x = record { number = 0; index = 0; samples = samples_of c m x }

lawful : Lawful synthesis
unfolding cleared frames
lawful =
    record {
      size = ne;
      new = silent;
      keeps = keeps;
      answer = λ c s x. given c (past c s) x;
      cleared_by = λ c. clearing-map (λ (r : Cleared). (r.number, r.channel)) cleared_as (valid c) c;
      new-config = λ c. refl;
      new-kept = λ c. refl;
      rest = λ c x. cond (not (eqb (length x.samples) (nf c))) 4 (cond (ltb (first passes6 x.lines) (length x.lines)) 6 0);
      number_is = λ c x. refl;
      framed = framed;
      framed_by = λ a x. refl;
      frame_refused = λ n a x. refl;
      frame-gives = λ a x. refl;
      frame-config = λ a x. refl;
      frame_kept = frame_kept;
      none_read = λ c v x. ap (λ (m : List Float). given c m x) (read_none c v);
      some_read = λ c f h x. ap (λ (m : List Float). given c m x) (read_some c f h);
    }

-- the last z samples
last_alone : (a : Channel) (f : Lent) → T (accepts synthesis a.config f)
    → last a.config (frames a f).0.samples ≡ take (z a.config) (drop (nf a.config) (places_of a.config f.lines))
unfolding lawful
last_alone a f t =
    let c = a.config in
    let h : Fits ne c f.lines = fits synthesis lawful c f t in
    ap (λ (r : Given × Channel). last c r.0.samples) (taken synthesis lawful a f t)
    ∙ last-samples c h.is_valid f.lines h.length-is (past c a.memory) (length-tab (nf c - z c) (λ k. get_or a.memory k zero32))

pub synthesis_demand3 : SynthesisDemand3
synthesis_demand3 =
    record {
      sequence = demand3 synthesis lawful;
      last_alone = last_alone;
      last_agree = λ a b e f g q s t.
          last_alone a f s ∙ ap₂ (λ (c : ℕ) (l : List Float). take (z c) (drop (nf c) (places_of c l))) e q ∙ sym (last_alone b g t);
    }
