-- What the steps of the listing come to: together they write `listing` of the file, and none reads more than the program hands it. Definitions only.
use Rattle.std.specs.Prelude.{◌≡◌, List, ℕ, suc, ◌^◌, ◌<◌, T, length, take}
use Rattle.config.specs.Config.{valid}
use Rattle.frame_file.specs.File.{lmf, header_of, frame_bytes}
use Rattle.listing.specs.declared.Lister.{Lister}
use Rattle.listing.specs.Listing.{listing}
use Rattle.listing.specs.Steps.{opening, step, written, whole_frames}

pub record Listed : Type 0 where
  -- the header's line, a line for each record and the last line together are `listing` of the file, for any file of fewer than 2^64 frames
  pub listing_is : (f : List ℕ) → whole_frames (header_of lmf f) f < 2 ^ 64 → written (suc (length f)) (opening f) f ≡ listing f
  -- a step reads no more than its frame's bytes: handed these alone it gives what it gives on all that is left of the file
  pub step_reads : (l : Lister) (f : List ℕ) → T (valid l.channel.config) → step l (take (frame_bytes l.channel.config) f) ≡ step l f
  -- the header's step reads no more than six
  pub opening_reads : (f : List ℕ) → opening (take 6 f) ≡ opening f
