-- What the program makes of its reads. What a read puts into a slice no contract says; these say which of its places count, and what they mean. Definitions only.
use Rattle.std.specs.Prelude.{ℕ, ◌≤◌, ◌≡◌, Bool, true, false, List, ltb, length, take}
use Rattle.io.specs.Counts.{IsPrefixLen}
use Rattle.frame_file.specs.File.{frame_bytes}
use Rattle.listing.specs.declared.Lister.{Lister}
use Rattle.listing.specs.Steps.{step}
use Rattle.lmf_list.specs.declared.Input.{Input}
use Rattle.lmf_list.specs.declared.ReadStep.{ReadStep}

-- what a read has brought that put bytes to the places from `at` to `end`, or failed: only a read of nothing ends the input
unfoldable pub brought : ℕ → ℕ → Bool → Input
brought at end true = record { len = at; more = false; ok = false }
brought at end false = record { len = end; more = ltb at end; ok = true }

-- one read: the slice before it, its place, what is known, the slice after it
pub record Came (before : List ℕ) (at : ℕ) (r : Input) (after : List ℕ) : Type 0 where
  -- what is known begins with what was known before, and ends inside the slice
  pub from : at ≤ r.len
  pub within : r.len ≤ length after
  -- what was read before stays
  pub stays : take at after ≡ take at before
  -- more may come just where something came: a shorter read is no end
  pub more : r.more ≡ ltb at r.len
  -- a read that fails brings nothing
  pub failed : r.ok ≡ false → r.len ≡ at

-- reads until the slice is full, or the input has ended or a read failed
pub record Filled (r : Input) (after : List ℕ) : Type 0 where
  -- what was read is a part of the slice, from its start
  pub counts : IsPrefixLen r.len after
  -- more may come only where no place is left for it
  pub full : r.more ≡ true → r.len ≡ length after

-- a record's step, on bytes that were read to the front of a room
pub record Next (l : Lister) (r : ReadStep) (room : List ℕ) : Type 0 where
  -- it is handed those of the room that were read, and no others
  pub stepped : r.stepped ≡ step l (take r.input.len room)
  -- no more than a frame's, so that the next frame is not touched
  pub most : r.input.len ≤ frame_bytes l.channel.config
  -- and a whole frame's where more may come
  pub full : r.input.more ≡ true → r.input.len ≡ frame_bytes l.channel.config
