-- The log's answers in the terms of its own paper: document 01's numbers 8, 9 and 10 of a header, and how many bytes a call takes. Definitions only.
use Rattle.std.specs.Prelude.{ℕ, List, [], ◌∷◌, Option, Some, None, ⊤, Result}
use Rattle.refusals.specs.declared.Refusal.{Refusal}
use Rattle.frame_file.specs.Paper.{Paper}
use Rattle.call_log.specs.Log.{header_number}

-- a header's number; no case has values
abbrev pub header_paper : Result ⊤ Refusal → Paper
header_paper h = record { number = header_number h; values = [] }

-- the bytes of a whole call. There is no number here: of a call that is cut, unknown or too long the text says `stopped` and which call it was
abbrev pub taken_values : Option ℕ → List ℕ
taken_values (Some n) = n ∷ []
taken_values None = []
