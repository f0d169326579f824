-- The near-Nyquist flag, sooner (document 02 §7): "a question over energies and a configuration", which stops at the first upper band that settles it. Definitions only.
use Rattle.std.specs.Prelude.{ℕ, ◌+◌, ◌-◌, Bool, true, false, not, cond, List, ltb, leb, length, take, drop, Float, Result, Ok, Err}
use Rattle.std.specs.Float.{binary32}
use Rattle.std.specs.Float.Ieee.{of_bits, mul, lt}
use Rattle.laws.specs.Lists.{tab, first}
use Rattle.config.specs.Config.{nb, rate, upper}
use Rattle.refusals.specs.declared.Refusal.{Refusal}
use Rattle.refusals.specs.Refusals.{accepted, number_of, index_of, judged}
use Rattle.measurement_steps.specs.Energy.{total}
use Rattle.near_nyquist.specs.declared.Sooner.{Sooner}

-- ---- the band that it stops at
-- the running sums of energies: from 0.0 in their order, after each addition
unfoldable pub running : List Float → List Float
running es = tab (length es) (λ k. total (take (k + 1) es))

-- "30.0 times the lower sum", of the bands before split; "sums the lower bands as now"
abbrev pub bound : ℕ → List Float → Float
bound split es = mul binary32 (of_bits binary32 0x41f00000) (total (take split es))

-- "the first upper band where the running sum exceeds" it, or the number of bands where none does
unfoldable pub stop : ℕ → List Float → ℕ
stop split es = split + first (λ sum. not (lt (bound split es) sum)) (running (drop split es))

-- ---- the answer
-- what a question gives: number and index, the answer, and how many bands were read for it
pub record Asked : Type 0 where
  pub number : ℕ
  pub index : ℕ
  pub answer : Bool
  pub read : ℕ

abbrev pub told : Bool → ℕ → Asked
told answer read = record { number = accepted; index = 0; answer = answer; read = read }

-- "how many bands it read: one more than the number of the band it stopped at, nb if it never stopped": n is nb, b that band or nb
abbrev pub up_to : ℕ → ℕ → Asked
up_to n b = cond (ltb b n) (told true (b + 1)) (told false n)

-- "0 at 48 kHz, where the answer is no"
unfoldable pub answer : ℕ → List Float → Asked
answer c es = cond (leb (rate c) 32000) (up_to (nb c) (stop (nb c - upper c) es)) (told false 0)

-- ---- the call: "Refusals: 1, 5, then 7 over all energies before any adding"
-- no, and nothing read, beside a refusal
abbrev pub refusal : ℕ → ℕ → Asked
refusal number index = record { number = number; index = index; answer = false; read = 0 }

unfoldable pub asked : ℕ → List Float → Asked
asked c es = judged refusal (answer c es) c es

-- the code's answer, as the definition has it
abbrev pub outcome : Result Sooner Refusal → Asked
outcome (Ok sooner) = told sooner.answer sooner.read
outcome (Err r) = refusal (number_of r) (index_of r)

-- ---- for the promises
-- the running sum of the upper bands with band b as the last
abbrev pub upper_sum : ℕ → List Float → ℕ → Float
upper_sum split es b = total (take (b + 1 - split) (drop split es))
