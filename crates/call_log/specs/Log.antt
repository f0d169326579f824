-- The log of calls (`LMC`): numbers, values, header, calls. A byte is a number below 256, and a byte past the end is 0. Definitions only.
use Rattle.std.specs.Prelude.{ℕ, zero, suc, ◌+◌, ◌*◌, ◌≤◌, Bool, true, false, cond, ◌≡◌, List, [], ◌∷◌, ℤ, pos, ltb, leb, eqb, length, get_or, take, drop, replicate, Float, Option, Some, None, ⊤, Result, Ok, Err}
use Rattle.std.specs.Float.{binary32}
use Rattle.std.specs.Float.Ieee.{of_bits, of_int, add}
use Rattle.frame_file.specs.File.{short, signed, marked}
use Rattle.refusals.specs.declared.Refusal.{Refusal}
use Rattle.refusals.specs.declared.Refusal.TheVariants.{ShortFile, BadMark, BadVersion}
use Rattle.refusals.specs.Refusals.{accepted, number_of}
use Rattle.call_log.specs.declared.layout.Field.{Field}
use Rattle.call_log.specs.declared.layout.Field.TheVariants.{Nothing, Byte, Flag, Number, Length, Samples, Floats, Unknown}

-- ---- numbers at the front of some bytes, little-endian
-- 32 bits; 16 are the frame file's `short`
abbrev pub word : List ℕ → ℕ
word b = short b + 65536 * short (drop 2 b)

-- ---- values: a count of 16 bits, and that many
-- n places at the front of a room. The second part follows from the first; with both, a caller can lend the part
abbrev pub Places : {A : Type 0} → ℕ → List A → Type 0
Places n room = (n ≤ length room) × (n ≡ length (take n room))

-- sample i; two bytes each
abbrev pub sample_of : List ℕ → ℕ → ℤ
sample_of b i = signed (short (drop (2 + 2 * i) b))

-- value i; four bytes each, "an f32 is its 32 bits, and a NaN pattern stands for a NaN"
abbrev pub float_of : List ℕ → ℕ → Float
float_of b i = of_bits binary32 (word (drop (2 + 4 * i) b))

-- "Before each call place i of an output area holds i + 0.5": 0x3f000000 is 0.5
abbrev pub before : ℕ → Float
before i = add binary32 (of_int binary32 (pos i)) (of_bits binary32 0x3f000000)

-- "Before each call place i of a peaks' area holds i + 7"
abbrev pub before_peak : ℕ → ℕ
before_peak i = i + 7

-- ---- the header: "shorter than 5 bytes: refused 8; wrong mark: refused 9; another version: refused 10"
-- "Three bytes LMC"
abbrev pub lmc : List ℕ
lmc = 0x4c ∷ 0x4d ∷ 0x43 ∷ []

-- "replay takes the current one alone": with the peaks, and the loudest band told the configuration, version 3
unfoldable pub header_of : List ℕ → Result ⊤ Refusal
header_of b = cond (ltb (length b) 5) (Err ShortFile) (cond (marked lmc b) (cond (eqb (short (drop 3 b)) 3) (Ok tt) (Err BadVersion)) (Err BadMark))

-- the paper's number for each case
abbrev pub header_number : Result ⊤ Refusal → ℕ
header_number (Ok good) = accepted
header_number (Err refusal) = number_of refusal

-- ---- the calls: six fields each, kind after kind from 0 (no call, as 13) to 14; "a count or a length is 16 bits and at most 1,024"; 2 and 12 have "at the end the
-- length of the peaks' area", 7 is "told the configuration", and so is 14
unfoldable pub rows : List (List Field)
rows =
    (Unknown ∷ Nothing ∷ Nothing ∷ Nothing ∷ Nothing ∷ Nothing ∷ []) ∷
    (Byte ∷ Nothing ∷ Nothing ∷ Nothing ∷ Nothing ∷ Nothing ∷ []) ∷
    (Samples 1024 ∷ Length ∷ Length ∷ Length ∷ Nothing ∷ Nothing ∷ []) ∷
    (Byte ∷ Nothing ∷ Nothing ∷ Nothing ∷ Nothing ∷ Nothing ∷ []) ∷
    (Floats 1024 ∷ Length ∷ Nothing ∷ Nothing ∷ Nothing ∷ Nothing ∷ []) ∷
    (Number ∷ Flag ∷ Floats 1024 ∷ Floats 1024 ∷ Length ∷ Length ∷ []) ∷
    (Number ∷ Floats 1024 ∷ Nothing ∷ Nothing ∷ Nothing ∷ Nothing ∷ []) ∷
    (Byte ∷ Floats 1024 ∷ Nothing ∷ Nothing ∷ Nothing ∷ Nothing ∷ []) ∷
    (Nothing ∷ Nothing ∷ Nothing ∷ Nothing ∷ Nothing ∷ Nothing ∷ []) ∷
    (Byte ∷ Samples 300 ∷ Nothing ∷ Nothing ∷ Nothing ∷ Nothing ∷ []) ∷
    (Byte ∷ Floats 300 ∷ Nothing ∷ Nothing ∷ Nothing ∷ Nothing ∷ []) ∷
    (Samples 1024 ∷ Length ∷ Nothing ∷ Nothing ∷ Nothing ∷ Nothing ∷ []) ∷
    (Byte ∷ Floats 1024 ∷ Length ∷ Length ∷ Nothing ∷ Nothing ∷ []) ∷
    (Unknown ∷ Nothing ∷ Nothing ∷ Nothing ∷ Nothing ∷ Nothing ∷ []) ∷
    (Byte ∷ Floats 1024 ∷ Nothing ∷ Nothing ∷ Nothing ∷ Nothing ∷ []) ∷ []

-- the fields of a call of a kind; above the last kind none is known
unfoldable pub fields_of : ℕ → List Field
fields_of kind = get_or rows kind (replicate 6 Unknown)

-- field i of a call of a kind
abbrev pub field_of : ℕ → ℕ → Field
field_of kind i = get_or (fields_of kind) i Unknown

abbrev pub pick : Bool → Option ℕ → Option ℕ
pick true t = t
pick false t = None

-- n bytes, where they are there
abbrev pub within : List ℕ → ℕ → Option ℕ
within b n = pick (leb n (length b)) (Some n)

-- a count of at most `most`, and that many values of `width` bytes each
abbrev pub listed : List ℕ → ℕ → ℕ → Option ℕ
listed b most width = pick (leb (short b) most) (within b (2 + width * short b))

-- how many bytes a field takes at the front of b
unfoldable pub field_taken : List ℕ → Field → Option ℕ
field_taken b Nothing = Some 0
field_taken b Byte = within b 1
field_taken b Flag = pick (leb (get_or b 0 0) 1) (within b 1)
field_taken b Number = within b 2
field_taken b Length = listed b 1024 0
field_taken b (Samples most) = listed b most 2
field_taken b (Floats most) = listed b most 4
field_taken b Unknown = None

abbrev pub next : Option ℕ → (ℕ → Option ℕ) → Option ℕ
next (Some n) f = f n
next None f = None

-- n fields of a kind, the first of them field i, from place k of b on: where they end
unfoldable pub fields : ℕ → ℕ → ℕ → List ℕ → ℕ → Option ℕ
fields zero i kind b k = Some k
fields (suc n) i kind b k = next (field_taken (drop k b) (field_of kind i)) (λ m. fields n (suc i) kind b (k + m))

-- how many bytes the call at the front of b takes: "a call is a kind byte and its data"
unfoldable pub call_taken : List ℕ → Option ℕ
call_taken b = fields 6 0 (get_or b 0 0) b 1
