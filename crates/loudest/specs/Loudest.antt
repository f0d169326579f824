-- The loudest band (document 01, module 7, ranked by document 02 §2): quiet, or the first band with the greatest energy times number of lines. Definitions only.
use Rattle.std.specs.Prelude.{ℕ, ◌+◌, ◌-◌, Bool, false, cond, List, eqb, pos, length, get_or, Float, Result, Ok, Err}
use Rattle.std.proofs.Math.Option.{Option, some, none}
use Rattle.std.specs.Float.{nan, inf, fin, binary32}
use Rattle.std.specs.Float.Ieee.{mul, of_int}
use Rattle.laws.specs.Lists.{tab, first}
use Rattle.laws.specs.Greatest.{best}
use Rattle.config.specs.Config.{edges}
use Rattle.refusals.specs.declared.Refusal.{Refusal}
use Rattle.refusals.specs.Refusals.{accepted, number_of, index_of, judged}
use Rattle.loudest.specs.declared.Loudest.{Loudest}
use Rattle.loudest.specs.declared.Loudest.TheVariants.{Quiet, Loud}

-- ---- what bands are ranked by
-- the number of lines of band b, from its edges
abbrev pub width : List ℕ → ℕ → ℕ
width es b = get_or es (b + 1) 0 - get_or es b 0

-- "energy times number of lines, one f32 product", which is infinite where it overflows, and so ranks
abbrev pub product : List ℕ → List Float → ℕ → Float
product es l b = mul binary32 (get_or l b nan) (of_int binary32 (pos (width es b)))

-- of all bands
unfoldable pub products : List ℕ → List Float → List Float
products es l = tab (length l) (product es l)

-- ---- the answer
-- a zero of either sign
unfoldable pub silent : Float → Bool
silent nan = false
silent (inf s) = false
silent (fin s m e) = eqb m 0

-- "Loud carries the band and that product"
abbrev pub loud : List Float → ℕ → Loudest
loud ps b = Loud b (get_or ps b nan)

-- "quiet, when all are zero", or loud with "the first band with the greatest"
unfoldable pub loudest : ℕ → List Float → Loudest
loudest c l = let ps = products (edges c) l in cond (eqb (first silent l) (length l)) Quiet (loud ps (best ps (length l)))

-- ---- the call: "1 is tested there before 5, now for exactly nb, and 7"
-- what it gives: number and index, and the answer
pub record Heard : Type 0 where
  pub number : ℕ
  pub index : ℕ
  pub loudest : Loudest

-- quiet beside a refusal
abbrev pub refusal : ℕ → ℕ → Heard
refusal number index = record { number = number; index = index; loudest = Quiet }

abbrev pub told : Loudest → Heard
told answer = record { number = accepted; index = 0; loudest = answer }

unfoldable pub heard : ℕ → List Float → Heard
heard c l = judged refusal (told (loudest c l)) c l

-- the code's answer, as the definition has it
abbrev pub outcome : Result Loudest Refusal → Heard
outcome (Ok answer) = told answer
outcome (Err r) = refusal (number_of r) (index_of r)

-- ---- the paper's number, index and values for each case of the answer
pub record Paper : Type 0 where
  -- 0, 1, 5 or 7
  pub number : ℕ
  -- beside 7 the first bad energy's, else 0
  pub index : ℕ
  -- the band and its product, where it is loud
  pub values : Option (ℕ × Float)

-- a quiet answer has none
abbrev pub values : Loudest → Option (ℕ × Float)
values Quiet = none
values (Loud band product) = some (band, product)

-- a loud answer, a quiet one, and a refusal
abbrev pub of_loud : ℕ → Float → Paper
of_loud band product = record { number = accepted; index = 0; values = some (band, product) }

abbrev pub of_quiet : Paper
of_quiet = record { number = accepted; index = 0; values = none }

abbrev pub of_refusal : ℕ → ℕ → Paper
of_refusal number index = record { number = number; index = index; values = none }

-- quiet stands beside a refusal too, so the number is the one that the call returns
abbrev pub paper : Heard → Paper
paper h = record { number = h.number; index = h.index; values = values h.loudest }
