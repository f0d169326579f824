-- The frame file (document 01, "Frame file and listing"): its header, its records, and the whole file. A byte is a number below 256.
-- Definitions only.
use Rattle.std.specs.Prelude.{ℕ, zero, suc, ◌+◌, ◌-◌, ◌*◌, Bool, cond, ◌&&◌, List, [], ◌∷◌, ℤ, pos, negsuc, ltb, eqb, length, get_or, take, drop, Result, Ok, Err}
use Rattle.laws.specs.Lists.{tab}
use Rattle.config.specs.Config.{valid, nf}
use Rattle.refusals.specs.declared.Refusal.{Refusal}
use Rattle.refusals.specs.declared.Refusal.TheVariants.{BadConfig, ShortFile, BadMark, BadVersion, CutFrame}
use Rattle.refusals.specs.Refusals.{accepted, number_of}
use Rattle.frame_file.specs.declared.Header.{Header}
use Rattle.frame_file.specs.declared.Record.{Record}
use Rattle.frame_file.specs.declared.Record.TheVariants.{Frame, End}

-- ---- bytes
abbrev pub byte : List ℕ → ℕ → ℕ
byte f k = get_or f k 0

-- 16 bits little-endian from place k on, and at the front
abbrev pub short_at : List ℕ → ℕ → ℕ
short_at f k = byte f k + 256 * byte f (k + 1)

abbrev pub short : List ℕ → ℕ
short f = short_at f 0

-- 16 bits as a signed number
unfoldable pub signed : ℕ → ℤ
signed n = cond (ltb n 0x8000) (pos n) (negsuc (0xffff - n))

-- n samples, 16 bits little-endian each
unfoldable pub samples : ℕ → List ℕ → List ℤ
samples n f = tab n (λ k. signed (short_at f (2 * k)))

-- ---- the header: mark, version, configuration, tested in the order 8, 9, 10, 1
-- `LMF`
abbrev pub lmf : List ℕ
lmf = 0x4c ∷ 0x4d ∷ 0x46 ∷ []

unfoldable pub marked : List ℕ → List ℕ → Bool
marked mark f = eqb (byte f 0) (byte mark 0) && (eqb (byte f 1) (byte mark 1) && eqb (byte f 2) (byte mark 2))

abbrev pub good : ℕ → ℕ → Result Header Refusal
good version config = Ok (record { version = version; config = config })

unfoldable pub header_of : List ℕ → List ℕ → Result Header Refusal
header_of mark f =
    cond (ltb (length f) 6) (Err ShortFile)
    (cond (marked mark f) (cond (eqb (short_at f 3) 1) (cond (valid (byte f 5)) (good (short_at f 3) (byte f 5)) (Err BadConfig)) (Err BadVersion)) (Err BadMark))

-- the paper's number for each case
abbrev pub header_number : Result Header Refusal → ℕ
header_number (Ok header) = accepted
header_number (Err refusal) = number_of refusal

-- ---- a record of configuration c: what the bytes after the header, or after a record, begin with
abbrev pub frame_bytes : ℕ → ℕ
frame_bytes c = 2 * nf c

unfoldable pub record_of : ℕ → List ℕ → Result Record Refusal
record_of c f =
    cond (valid c)
    (cond (eqb (length f) 0) (Ok End) (cond (ltb (length f) (frame_bytes c)) (Err CutFrame) (Ok (Frame (frame_bytes c)))))
    (Err BadConfig)

-- the paper's number for each case; a frame's value is how many bytes it used
abbrev pub record_number : Result Record Refusal → ℕ
record_number (Ok found) = accepted
record_number (Err refusal) = number_of refusal

-- ---- the whole file
-- the frames that a file holds after its header, and how it ends
pub record Contents : Type 0 where
  pub frames : List (List ℤ)
  pub ending : Result Record Refusal

abbrev pub ended : Result Record Refusal → Contents
ended r = record { frames = []; ending = r }

abbrev pub more : List ℤ → Contents → Contents
more x rest = record { frames = x ∷ rest.frames; ending = rest.ending }

-- record after record, to the first that is no frame
unfoldable pub reading : ℕ → ℕ → List ℕ → Contents
reading zero c f = ended (Ok End)
reading (suc most) c f = elim (record_of c f) [
  | Ok found ↦ elim found [
    | Frame used ↦ more (samples (nf c) (take used f)) (reading most c (drop used f))
    | End ↦ ended (Ok End)
  ]
  | Err refusal ↦ ended (Err refusal)
]

-- each frame uses a byte at least, so there are no more frames than bytes
unfoldable pub contents : ℕ → List ℕ → Contents
contents c f = reading (suc (length f)) c f
