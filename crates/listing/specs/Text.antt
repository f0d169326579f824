-- The lines of a listing as bytes (document 01, "Frame file and listing"). Every line ends with a newline. Definitions only.
use Rattle.std.specs.Prelude.{ℕ, Bool, List, [], ◌∷◌, ◌++◌}
use Rattle.plain_text.specs.Text.{space, newline, digit, decimal}
use Rattle.frame_file.specs.File.{lmf}
use Rattle.loudest.specs.declared.Loudest.{Loudest}
use Rattle.loudest.specs.declared.Loudest.TheVariants.{Quiet, Loud}

-- "`LMF`, version and configuration"
unfoldable pub first_line : ℕ → ℕ → List ℕ
first_line version config = lmf ++ space ++ decimal version ++ space ++ decimal config ++ newline

-- "loudest band, which is named only when a loudest band exists, else `-`"
abbrev pub band : Loudest → List ℕ
band (Loud b product) = decimal b
band Quiet = 0x2d ∷ []

-- "per frame its number, flag (0 or 1) and loudest band"
unfoldable pub frame_line : ℕ → Bool → Loudest → List ℕ
frame_line n flag loudest = decimal n ++ space ++ (digit flag ∷ []) ++ space ++ band loudest ++ newline

-- "`end` and the frame count"
unfoldable pub end_line : ℕ → List ℕ
end_line n = (0x65 ∷ 0x6e ∷ 0x64 ∷ []) ++ space ++ decimal n ++ newline

-- "`refused` and the number"
unfoldable pub refused_line : ℕ → List ℕ
refused_line number = (0x72 ∷ 0x65 ∷ 0x66 ∷ 0x75 ∷ 0x73 ∷ 0x65 ∷ 0x64 ∷ []) ++ space ++ decimal number ++ newline
