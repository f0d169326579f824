-- The channel and the Rust's time buffer: what a channel keeps of a frame is all that the buffer's next step reads. Definitions only.
use Rattle.std.specs.Prelude.{◌≡◌, List, ℕ, ◌-◌, ℤ, T, length}
use Rattle.config.specs.Config.{valid, nf, z}
use Rattle.analysis_steps.specs.Buffer.{buffer_step}
use Rattle.analysis_lines.specs.Lines.{time_buffer}
use Rattle.analysis.specs.Analysis.{kept_of, channel_of, channel_past}

pub record Buffers : Type 0 where
  -- The channel does what the Rust's time buffer does. At any configuration, after a past of nf - z samples and a frame x of nf: the time buffer of the next
  -- frame y, made from what the channel keeps of x, is the Rust's step by y from the time buffer of x.
  pub next_buffer : (c : ℕ) (past x : List ℤ) → T (valid c) → length past ≡ nf c - z c → length x ≡ nf c
      → (y : List ℤ) → time_buffer c (channel_past (channel_of c (kept_of c past x))) y ≡ buffer_step (nf c) (z c) (time_buffer c past x) y
