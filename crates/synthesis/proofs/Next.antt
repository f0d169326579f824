-- What a frame leaves for the next one, and what of it does not depend on the past: for the channel's promise. Assumes nothing.
use mathlib.Core.Path.{◌≡◌, ◌∙◌}
use mathlib.Core.List.{List}
use Prim.Native.Nat.{ℕ, ◌-◌, ◌*◌, ◌≤◌}
use native.Mathlib.Omega.{arith}
use lib.Dec.{T}
use lib.ListN.{length, take, drop, replicate}
use lib.Ieee.{Float}
use Rattle.laws.proofs.Lists.{tab-at}
use Rattle.config.specs.Config.{valid, nf, z, half, ne}
use Rattle.config.proofs.Sound.{sound}
use Rattle.windows.specs.Windows.{window}
use Rattle.windows.proofs.Entries.{window_length}
use Rattle.gains.specs.Gains.{gain}
use Rattle.laws.specs.Numbers.{zero32}
use Rattle.synthesis_steps.proofs.Lengths.{length-remains, length-output, last-output}
use Rattle.synthesis_frame.proofs.Lengths.{length-places}
use Rattle.synthesis_samples.specs.Samples.{places_of, samples_of, memory_of}
use Rattle.synthesis.specs.Synthesis.{kept_of, channel_of, channel_past}

module _ (c : ℕ) (v : T (valid c)) (x : List Float) (l : length x ≡ ne c) where
  length-places_of : length (places_of c x) ≡ 2 * nf c
  unfolding places_of
  length-places_of =
      let s = sound c v in
      length-places (half c) (gain (nf c)) (window c) x (omega arith) (window_length c v ∙ omega arith) ∙ omega arith

  early : z c ≤ nf c
  early = let s = sound c v in omega arith

  pub length-memory_of : length (memory_of c x) ≡ nf c - z c
  unfolding memory_of
  length-memory_of = length-remains (nf c) (z c) (places_of c x) early length-places_of

  -- the past of a channel that keeps this frame: the memory that the frame left
  pub next_past : channel_past (channel_of c (kept_of c x)) ≡ memory_of c x
  unfolding kept_of
  next_past = tab-at (memory_of c x) (replicate (300 - (nf c - z c)) zero32) zero32 (nf c - z c) length-memory_of

  module _ (past : List Float) (p : length past ≡ nf c - z c) where
    pub length-samples_of : length (samples_of c past x) ≡ nf c
    unfolding samples_of
    length-samples_of = length-output (nf c) (z c) (places_of c x) early length-places_of past p

    -- the last z samples come from the lines alone
    pub last-samples : drop (nf c - z c) (samples_of c past x) ≡ take (z c) (drop (nf c) (places_of c x))
    unfolding samples_of
    last-samples = last-output (nf c) (z c) (places_of c x) early length-places_of past p
