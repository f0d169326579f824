-- A header's and a record's answer in document 01's terms: the number and the values of each case. Definitions only.
use Rattle.std.specs.Prelude.{ℕ, List, [], ◌∷◌, Result, Ok, Err}
use Rattle.refusals.specs.declared.Refusal.{Refusal}
use Rattle.frame_file.specs.declared.Header.{Header}
use Rattle.frame_file.specs.declared.Record.{Record}
use Rattle.frame_file.specs.declared.Record.TheVariants.{Frame, End}
use Rattle.frame_file.specs.File.{header_number, record_number}

pub record Paper : Type 0 where
  -- 0, or the refusal's
  pub number : ℕ
  -- what is told beside it, if anything is
  pub values : List ℕ

-- a good header's version and configuration
abbrev pub header_values : Result Header Refusal → List ℕ
header_values (Ok header) = header.version ∷ header.config ∷ []
header_values (Err refusal) = []

-- what document 01 says of a header
abbrev pub header_paper : Result Header Refusal → Paper
header_paper h = record { number = header_number h; values = header_values h }

-- how many bytes a frame uses
abbrev pub used_values : Record → List ℕ
used_values (Frame used) = used ∷ []
used_values End = []

abbrev pub record_values : Result Record Refusal → List ℕ
record_values (Ok found) = used_values found
record_values (Err refusal) = []

-- what it says of a record
abbrev pub record_paper : Result Record Refusal → Paper
record_paper r = record { number = record_number r; values = record_values r }
