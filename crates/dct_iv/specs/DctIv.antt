-- The answer to a call of the entry. Definitions only.
use Rattle.std.specs.Prelude.{cond, List, ℕ, ltb, eqb, Float, length}
use Rattle.laws.specs.Lists.{first}
use Rattle.laws.specs.Passes.{passes6}
use Rattle.config.specs.Config.{among, dct_lengths}
use Rattle.refusals.specs.declared.Verdict.{Verdict}
use Rattle.refusals.specs.Refusals.{accepted, bad_size, bad_input, bad_value, verdict_of}
use Rattle.dct_steps.specs.Dct.{dct_iv}

-- the number for a length and a buffer
unfoldable pub number : ℕ → List Float → ℕ
number n buf =
    cond (among dct_lengths n) (cond (eqb (length buf) n) (cond (ltb (first passes6 buf) n) bad_value accepted) bad_input) bad_size

-- the number, and the index that goes with it: "the index is 0 but for 6 and 7"
unfoldable pub verdict : ℕ → List Float → Verdict
verdict n buf = verdict_of (number n buf) (first passes6 buf)

-- a call's verdict, and its buffer as it returns
pub record Answer : Type 0 where
  pub judged : Verdict
  pub buf : List Float

abbrev pub outcome : Verdict → List Float → Answer
outcome v buf = record { judged = v; buf = buf }

-- "A refused call writes nothing"; an accepted one leaves the DCT in the buffer.
unfoldable pub answer : ℕ → List Float → Answer
answer n buf = outcome (verdict n buf) (cond (eqb (number n buf) accepted) (dct_iv buf) buf)
