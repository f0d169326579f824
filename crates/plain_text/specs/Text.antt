-- What lines of text are made of, as bytes. Definitions only.
use Rattle.std.specs.Prelude.{ℕ, zero, suc, ◌+◌, ◌/◌, ◌%◌, Bool, true, false, cond, List, [], ◌∷◌, ◌++◌, ltb}

abbrev pub space : List ℕ
space = 0x20 ∷ []

abbrev pub newline : List ℕ
newline = 0x0a ∷ []

-- a flag, "0 or 1"
abbrev pub digit : Bool → ℕ
digit flag = cond flag 0x31 0x30

-- decimal, no leading zeros: the last digit after those of the tenth part. A number has fewer digits than one more than itself.
unfoldable pub spelled : ℕ → ℕ → List ℕ
spelled zero n = []
spelled (suc most) n = elim (ltb n 10) [
  | true ↦ (48 + n) ∷ []
  | false ↦ spelled most (n / 10) ++ ((48 + n % 10) ∷ [])
]

unfoldable pub decimal : ℕ → List ℕ
decimal n = spelled (suc n) n
