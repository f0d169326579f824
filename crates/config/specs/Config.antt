-- The configurations of document 01, then those of document 02 §1, and their columns (config.rs, band_index_tables.rs). Definitions only.
use Rattle.std.specs.Prelude.{Bool, false, ◌||◌, List, [], ◌∷◌, map, ℕ, ◌/◌, leb, eqb, get_or, replicate}
use Rattle.config.specs.declared.Lc3Config.{Lc3Config}
use Rattle.config.specs.Tables.{rows, edge_rows}

-- "configuration above 9", and by document 02 §1 "1 now begins at 20": the one place that knows the largest configuration
abbrev pub largest : ℕ
largest = 19

abbrev pub valid : ℕ → Bool
valid c = leb c largest

abbrev pub configs : List ℕ
configs = 0 ∷ 1 ∷ 2 ∷ 3 ∷ 4 ∷ 5 ∷ 6 ∷ 7 ∷ 8 ∷ 9 ∷ 10 ∷ 11 ∷ 12 ∷ 13 ∷ 14 ∷ 15 ∷ 16 ∷ 17 ∷ 18 ∷ 19 ∷ []

-- what a number that is no configuration gets: 0 in every column
abbrev pub none : Lc3Config
none = record { fs = 0; ne = 0; duration = 0; nb = 0; nf = 0; z = 0; upper = 0 }

-- `Lc3Config::new`: the row of a configuration
unfoldable pub row : ℕ → Lc3Config
row c = get_or rows c none

-- samples of a frame
abbrev pub nf : ℕ → ℕ
nf c = (row c).nf

-- zeros at the window's end
abbrev pub z : ℕ → ℕ
z c = (row c).z

-- lines that are coded
abbrev pub ne : ℕ → ℕ
ne c = (row c).ne

-- bands
abbrev pub nb : ℕ → ℕ
nb c = (row c).nb

-- samples in a second
abbrev pub rate : ℕ → ℕ
rate c = (row c).fs

-- microseconds of a frame
abbrev pub duration : ℕ → ℕ
duration c = (row c).duration

-- the last bands, which the flag counts as upper
abbrev pub upper : ℕ → ℕ
upper c = (row c).upper

-- the FFT's size
unfoldable pub half : ℕ → ℕ
half c = nf c / 2

-- the edges of the bands: 65 places, of which the first nb + 1 are in use; 65 zeros for a number that is no configuration
unfoldable pub edges : ℕ → List ℕ
edges c = get_or edge_rows c (replicate 65 0)

-- whether n is in the list
abbrev pub among : List ℕ → ℕ → Bool
among [] n = false
among (x ∷ xs) n = eqb x n || among xs n

-- "FFT size or DCT length not of the table above"; "2 accepts the new sizes" (document 02 §1)
unfoldable pub fft_sizes : List ℕ
fft_sizes = map half configs

unfoldable pub dct_lengths : List ℕ
dct_lengths = map nf configs
