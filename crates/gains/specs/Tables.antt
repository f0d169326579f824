-- The gains as bits, in the order of the lengths. Written by tools/tables from data/twiddles.txt. Definitions only.
use Rattle.std.specs.Prelude.{List, [], ◌∷◌, ℕ}

-- the DCT's lengths, from the smallest
unfoldable pub lengths : List ℕ
lengths = 20 ∷ 40 ∷ 60 ∷ 80 ∷ 120 ∷ 160 ∷ 180 ∷ 240 ∷ 320 ∷ 360 ∷ 480 ∷ []

unfoldable pub gain_bits : List ℕ
gain_bits =
    0x3e21e89b ∷ 0x3de4f92e ∷ 0x3dbaf4ba ∷ 0x3da1e89b ∷ 0x3d8432a5 ∷ 0x3d64f92e ∷ 0x3d57e0cf ∷ 0x3d3af4ba ∷
    0x3d21e89b ∷ 0x3d18a61f ∷ 0x3d0432a5 ∷
    []
