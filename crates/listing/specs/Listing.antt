-- THE LISTING of a file, as one function from its bytes to the text's (document 01, "Frame file and listing"). Definitions only.
use Rattle.std.specs.Prelude.{ℕ, suc, ◌≡◌, List, [], ◌∷◌, ◌++◌, ℤ, length, drop, replicate, Float, Result, Ok, Err}
use Rattle.std.specs.Float.{binary32}
use Rattle.std.specs.Float.Ieee.{of_bits}
use Rattle.config.specs.Config.{nf, nb}
use Rattle.analysis.specs.declared.Channel.{Channel}
use Rattle.analysis.specs.Analysis.{Given, cleared, frames, lent}
use Rattle.measurement.specs.Measurement as ms
use Rattle.loudest.specs.Loudest.{heard}
use Rattle.refusals.specs.declared.Refusal.{Refusal}
use Rattle.refusals.specs.Refusals.{number_of}
use Rattle.frame_file.specs.declared.Header.{Header}
use Rattle.frame_file.specs.declared.Record.{Record}
use Rattle.frame_file.specs.File.{lmf, header_of, Contents, contents}
use Rattle.listing.specs.declared.frame.Listened.{Listened}
use Rattle.listing.specs.Text.{first_line, frame_line, end_line, refused_line}

-- ---- a frame x on the channel ch
abbrev pub zeros : ℕ → List Float
zeros n = replicate n (of_bits binary32 0)

-- the analysis' frame call, with room for the lines of the channel's configuration
abbrev pub framed : Channel → List ℤ → Given × Channel
framed ch x = frames ch (lent x (zeros (nf ch.config)))

-- the measurement of its lines at that configuration, with room for the energies and for the peaks, which the listing does not tell
abbrev pub measured : Channel → List ℤ → ms.Given
measured ch x = ms.measures ch.config (ms.lent (framed ch x).0.lines (zeros (nb ch.config)) (replicate (nb ch.config) 0))

-- the flag, the loudest band at that configuration and the new channel; where the loudest band is refused the answer beside the refusal is quiet
unfoldable pub listened : Channel → List ℤ → Listened
listened ch x = record { flag = (measured ch x).flag; loudest = (heard ch.config (measured ch x).energies).loudest; channel = (framed ch x).1 }

-- the same, with what the call leaves in the rooms that are lent for lines, energies and peaks
abbrev pub ListenedIn : Channel → List ℤ → Listened → List Float → List Float → List ℕ → Type 0
ListenedIn ch x r lines energies peaks = (r ≡ listened ch x) × (lines ≡ (framed ch x).0.lines) × (energies ≡ (measured ch x).energies) × (peaks ≡ (measured ch x).peaks)

-- the line of frame number n
abbrev pub line_of : ℕ → Listened → List ℕ
line_of n m = frame_line n m.flag m.loudest

-- the lines of frames, numbered from n on; each call is handed the channel as the last one gave it
unfoldable pub frame_lines : Channel → ℕ → List (List ℤ) → List ℕ
frame_lines ch n [] = []
frame_lines ch n (x ∷ xs) = line_of n (listened ch x) ++ frame_lines (listened ch x).channel (suc n) xs

-- ---- the whole
-- "last, `end` and the frame count, or `refused` and the number"
abbrev pub last_line : ℕ → Result Record Refusal → List ℕ
last_line count (Ok found) = end_line count
last_line count (Err refusal) = refused_line (number_of refusal)

-- "A cut frame comes after the whole frames have been listed"
abbrev pub body : ℕ → Contents → List ℕ
body c k = frame_lines (cleared c).channel 0 k.frames ++ last_line (length k.frames) k.ending

-- "A bad header gives the last line alone"
abbrev pub listed : Result Header Refusal → List ℕ → List ℕ
listed (Ok header) f = first_line header.version header.config ++ body header.config (contents header.config (drop 6 f))
listed (Err refusal) f = refused_line (number_of refusal)

unfoldable pub listing : List ℕ → List ℕ
listing f = listed (header_of lmf f) f
