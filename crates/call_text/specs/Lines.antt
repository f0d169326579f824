-- The lines that a call is answered with, as bytes (the bench's log of calls, "The text"). Definitions only.
use Rattle.std.specs.Prelude.{ℕ, cond, List, [], ◌∷◌, ◌++◌, eqb, ℤ, pos, negsuc, nat_abs, Float}
use Rattle.std.specs.Float.{binary32}
use Rattle.std.specs.Float.Ieee.{to_bits, is_nan}
use Rattle.io.specs.Digits.{last_digits}
use Rattle.plain_text.specs.Text.{space, newline, digit, decimal}
use Rattle.call_text.specs.declared.Extra.{Extra}
use Rattle.call_text.specs.declared.Extra.TheVariants.{Nothing, Flag, Band}

-- a place of an area: "eight lower-case hex digits each, `nan` for a NaN"
unfoldable pub value : Float → List ℕ
value x = cond (is_nan x) (0x6e ∷ 0x61 ∷ 0x6e ∷ []) (last_digits 16 8 (to_bits binary32 x))

-- a sample "in decimal", with a minus where it is below zero
abbrev pub sign : ℤ → List ℕ
sign (pos n) = []
sign (negsuc n) = 0x2d ∷ []

unfoldable pub sample : ℤ → List ℕ
sample x = sign x ++ decimal (nat_abs x)

-- the texts of a list's places, one after the other; and each after a space
unfoldable pub each : {A : Type 0} → (A → List ℕ) → List A → List ℕ
each f [] = []
each f (x ∷ xs) = f x ++ each f xs

abbrev pub spaced : {A : Type 0} → (A → List ℕ) → List A → List ℕ
spaced f x = each (λ y. space ++ f y) x

-- "a line for each output area, its name and its places"
unfoldable pub area_line : List ℕ → List Float → List ℕ
area_line name x = name ++ spaced value x ++ newline

-- the names of the areas
abbrev pub lines : List ℕ
lines = 0x6c ∷ 0x69 ∷ 0x6e ∷ 0x65 ∷ 0x73 ∷ []

abbrev pub energies : List ℕ
energies = 0x65 ∷ 0x6e ∷ 0x65 ∷ 0x72 ∷ 0x67 ∷ 0x69 ∷ 0x65 ∷ 0x73 ∷ []

abbrev pub peaks : List ℕ
peaks = 0x70 ∷ 0x65 ∷ 0x61 ∷ 0x6b ∷ 0x73 ∷ []

abbrev pub samples : List ℕ
samples = 0x73 ∷ 0x61 ∷ 0x6d ∷ 0x70 ∷ 0x6c ∷ 0x65 ∷ 0x73 ∷ []

abbrev pub real : List ℕ
real = 0x72 ∷ 0x65 ∷ 0x61 ∷ 0x6c ∷ []

abbrev pub imag : List ℕ
imag = 0x69 ∷ 0x6d ∷ 0x61 ∷ 0x67 ∷ []

abbrev pub buffer : List ℕ
buffer = 0x62 ∷ 0x75 ∷ 0x66 ∷ 0x66 ∷ 0x65 ∷ 0x72 ∷ []

abbrev pub energy : List ℕ
energy = 0x65 ∷ 0x6e ∷ 0x65 ∷ 0x72 ∷ 0x67 ∷ 0x79 ∷ []

abbrev pub read : List ℕ
read = 0x72 ∷ 0x65 ∷ 0x61 ∷ 0x64 ∷ []

-- "7, when loud, `energy` with its bits"; "with §2: the line `energy` has the product's bits"
abbrev pub energy_line : List Float → List ℕ
energy_line [] = []
energy_line (x ∷ xs) = area_line energy (x ∷ xs)

-- "a last area `peaks`, its places in decimal"; "a line `read N`"
unfoldable pub places_line : List ℕ → List ℕ → List ℕ
places_line name z = name ++ spaced decimal z ++ newline

-- the energies' line, and after it the peaks': "a last area"
abbrev pub measured_lines : List Float → List ℕ → List ℕ
measured_lines y z = area_line energies y ++ places_line peaks z

-- "kind 2 `lines`, `energies`; 4 `samples`; 5 `real`, `imag`; 6 `buffer`; 7, when loud, `energy`", "Kind 11: .. area `lines`. Kind 12: .. area `energies`",
-- "kinds 2 and 12 have a last area `peaks`", "Kind 14: .. always a line `read N`": the lines of the areas x, y and z
abbrev pub area_lines : ℕ → List Float → List Float → List ℕ → List ℕ
area_lines kind x y z =
    cond (eqb kind 2) (area_line lines x ++ measured_lines y z)
    (cond (eqb kind 4) (area_line samples x)
    (cond (eqb kind 5) (area_line real x ++ area_line imag y)
    (cond (eqb kind 6) (area_line buffer x)
    (cond (eqb kind 7) (energy_line x)
    (cond (eqb kind 11) (area_line lines x) (cond (eqb kind 12) (measured_lines x z) (cond (eqb kind 14) (places_line read z) [])))))))

-- a word and a number, as `stopped K`
unfoldable pub worded : List ℕ → ℕ → List ℕ
worded word n = word ++ space ++ decimal n

-- "`analysis C` and every sample of the array in decimal"
abbrev pub analysis : List ℕ
analysis = 0x61 ∷ 0x6e ∷ 0x61 ∷ 0x6c ∷ 0x79 ∷ 0x73 ∷ 0x69 ∷ 0x73 ∷ []

unfoldable pub analysis_line : ℕ → List ℤ → List ℕ
analysis_line config x = worded analysis config ++ spaced sample x ++ newline

-- "`synthesis C` and every place of the memory in hex"
abbrev pub synthesis : List ℕ
synthesis = 0x73 ∷ 0x79 ∷ 0x6e ∷ 0x74 ∷ 0x68 ∷ 0x65 ∷ 0x73 ∷ 0x69 ∷ 0x73 ∷ []

unfoldable pub synthesis_line : ℕ → List Float → List ℕ
synthesis_line config x = worded synthesis config ++ spaced value x ++ newline

-- two numbers of a line, each with a space after it
unfoldable pub numbers : ℕ → ℕ → List ℕ
numbers a b = decimal a ++ space ++ decimal b ++ space

-- "EXTRA is the flag 0 or 1 for kind 2, the band or `-` for kind 7, `-` else", "Kind 12: EXTRA the flag", "Kind 14: EXTRA the answer 0 or 1"
abbrev pub extra : Extra → List ℕ
extra Nothing = 0x2d ∷ []
extra (Flag flag) = digit flag ∷ []
extra (Band band) = decimal band

-- "For each call a line `K KIND NUMBER INDEX EXTRA`": `numbers` of K and KIND, and then
unfoldable pub answer : ℕ → ℕ → Extra → List ℕ
answer number index e = numbers number index ++ extra e ++ newline

-- "For each call a line .. Then a line for each output area"
unfoldable pub call_text : ℕ → ℕ → ℕ → ℕ → Extra → List Float → List Float → List ℕ → List ℕ
call_text count kind number index e x y z = numbers count kind ++ answer number index e ++ area_lines kind x y z

-- "8 `analysis C` and every sample of the array in decimal, `synthesis C` and every place of the memory in hex"
unfoldable pub show_text : ℕ → ℕ → List ℤ → ℕ → List Float → List ℕ
show_text count a x s m = numbers count 8 ++ answer 0 0 Nothing ++ (analysis_line a x ++ synthesis_line s m)

-- "`end N`", "`stopped K`", "`refused 8`": the last line
unfoldable pub last_line : List ℕ → ℕ → List ℕ
last_line word n = worded word n ++ newline
