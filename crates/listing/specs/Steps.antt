-- The listing step by step, as the program asks for it: each step is handed what is left of the file, and tells its line, how many bytes it
-- used (0 at the last line) and what it carries on. Definitions only.
use Rattle.std.specs.Prelude.{ℕ, zero, suc, ◌+◌, ◌-◌, ◌^◌, true, false, cond, List, ◌++◌, ltb, eqb, length, take, drop, replicate, Result, Ok, Err}
use Rattle.std.proofs.Math.Seq.{paste}
use Rattle.config.specs.Config.{nf}
use Rattle.analysis.specs.Analysis.{cleared}
use Rattle.refusals.specs.declared.Refusal.{Refusal}
use Rattle.refusals.specs.Refusals.{number_of}
use Rattle.frame_file.specs.declared.Header.{Header}
use Rattle.frame_file.specs.declared.Record.{Record}
use Rattle.frame_file.specs.declared.Record.TheVariants.{Frame, End}
use Rattle.frame_file.specs.File.{lmf, samples, header_of, record_of, contents}
use Rattle.listing.specs.declared.line.Text.{Text}
use Rattle.listing.specs.declared.Lister.{Lister}
use Rattle.listing.specs.declared.Stepped.{Stepped}
use Rattle.listing.specs.declared.frame.Listened.{Listened}
use Rattle.listing.specs.Text.{first_line, end_line, refused_line}
use Rattle.listing.specs.Listing.{listened, line_of}

-- ---- a line in an array of 64 bytes
abbrev pub blank : Text
blank = record { bytes = replicate 64 0; len = 0 }

-- t with the bytes s after its own
unfoldable pub with : Text → List ℕ → Text
with t s = record { bytes = paste t.bytes t.len s (length s); len = t.len + length s }

-- the bytes s, then zeros
abbrev pub text : List ℕ → Text
text s = with blank s

-- what a text says
abbrev pub said : Text → List ℕ
said t = take t.len t.bytes

-- ---- the steps
abbrev pub start : ℕ → Lister
start c = record { channel = (cleared c).channel; count = 0 }

abbrev pub told : List ℕ → ℕ → Lister → Stepped
told line used next = record { text = text line; used = used; lister = next }

-- the last line: nothing is used, and nothing changes
abbrev pub last : Lister → List ℕ → Stepped
last l line = told line 0 l

-- the header
abbrev pub opened : Result Header Refusal → Stepped
opened (Ok header) = told (first_line header.version header.config) 6 (start header.config)
opened (Err refusal) = last (start 255) (refused_line (number_of refusal))

unfoldable pub opening : List ℕ → Stepped
opening f = opened (header_of lmf f)

-- the count stays at 2^64 - 1
unfoldable pub counted : ℕ → ℕ
counted n = cond (ltb n (2 ^ 64 - 1)) (n + 1) n

-- a frame's line, and what is carried on
abbrev pub framed : Lister → ℕ → Listened → Stepped
framed l used m = told (line_of l.count m) used (record { channel = m.channel; count = counted l.count })

-- a record
abbrev pub standing : Lister → List ℕ → Record → Stepped
standing l f (Frame used) = framed l used (listened l.channel (samples (nf l.channel.config) (take used f)))
standing l f End = last l (end_line l.count)

abbrev pub found : Lister → List ℕ → Result Record Refusal → Stepped
found l f (Ok record_at) = standing l f record_at
found l f (Err refusal) = last l (refused_line (number_of refusal))

unfoldable pub step : Lister → List ℕ → Stepped
step l f = found l f (record_of l.channel.config f)

-- ---- all that is written: a step's line, then, where it used bytes, that of the step on what they leave; at most so many steps more
unfoldable pub written : ℕ → Stepped → List ℕ → List ℕ
written zero s f = said s.text
written (suc most) s f = elim (eqb s.used 0) [
  | true ↦ said s.text
  | false ↦ said s.text ++ written most (step s.lister (drop s.used f)) (drop s.used f)
]

-- how many whole frames a file holds
abbrev pub whole_frames : Result Header Refusal → List ℕ → ℕ
whole_frames (Ok header) f = length (contents header.config (drop 6 f)).frames
whole_frames (Err refusal) f = 0
