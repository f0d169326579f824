-- The lengths of a frame: what the last arm of a match on all of them but the longest knows. Written by tools/tables. Assumes nothing.
use mathlib.Core.Path.{◌≡◌, sym}
use mathlib.Core.Bool.{◌||◌}
use mathlib.Core.List.{List, [], ◌∷◌}
use Prim.Native.Nat.{ℕ}
use lib.Dec.{T, eqb, eqb→eq}
use Rattle.laws.proofs.Table.{every}
use Rattle.laws.proofs.Arms.{Outside}
use Rattle.config.specs.Tables.{rows}
use Rattle.config.specs.Config.{row, among, dct_lengths}
use Rattle.config.proofs.Among.{past_among}

-- but the longest
abbrev shorter : List ℕ
shorter = 20 ∷ 40 ∷ 60 ∷ 80 ∷ 120 ∷ 160 ∷ 180 ∷ 240 ∷ 320 ∷ 360 ∷ []

test : T (every (λ k n. among shorter n || eqb 480 n) 0 dct_lengths)
unfolding dct_lengths row rows
test = tt

pub is_longest : (n : ℕ) → T (among dct_lengths n) → Outside shorter n Unit → n ≡ 480
is_longest n a o = sym (eqb→eq 480 n (past_among (eqb 480) dct_lengths shorter test n a o))
