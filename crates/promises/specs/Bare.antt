-- The measurement of document 02 §5, energies and flag alone, which §12 gave its peaks. No contract cites it any more: it is what a measurement is held to in all
-- but its peaks. Definitions only.
use Rattle.std.specs.Prelude.{Bool, false, not, cond, List, ℕ, zero, suc, ltb, eqb, length, Float}
use Rattle.laws.specs.Lists.{first}
use Rattle.laws.specs.Passes.{passes6}
use Rattle.config.specs.Config.{valid, nf, nb}
use Rattle.refusals.specs.Refusals as refusals
use Rattle.refusals.specs.declared.Verdict.{Verdict}
use Rattle.measurement.specs.Measurement.{energies_of, flag_of}

-- what a call is lent
pub record Lent : Type 0 where
  pub lines : List Float
  pub energies : List Float

-- what it gives: number, index and flag, and the energies' slice at its end
pub record Given : Type 0 where
  pub number : ℕ
  pub index : ℕ
  pub flag : Bool
  pub energies : List Float

-- the refusals, in the order of document 01's table; "6 now also applies to the second call's lines, tested last"
abbrev pub number : ℕ → Lent → ℕ
number c x =
    cond (not (valid c)) refusals.bad_config
    (cond (not (eqb (length x.lines) (nf c))) refusals.bad_input
    (cond (not (eqb (length x.energies) (nb c))) refusals.bad_energies
    (cond (ltb (first passes6 x.lines) (length x.lines)) refusals.bad_value refusals.accepted)))

-- a number with the index that goes with it: for 6 the first line that does not pass
abbrev pub verdict : ℕ → Lent → Verdict
verdict n x = refusals.verdict_of n (first passes6 x.lines)

-- an accepted call, on its lines
abbrev pub accepted : ℕ → List Float → Given
accepted c l = record { number = refusals.accepted; index = 0; flag = flag_of c (energies_of c l); energies = energies_of c l }

-- by the number: a refused call writes nothing
abbrev pub measured : ℕ → ℕ → Lent → Given
measured zero c x = accepted c x.lines
measured (suc n) c x = record { number = suc n; index = (verdict (suc n) x).index; flag = false; energies = x.energies }

-- what a measurement gave
unfoldable pub measures : ℕ → Lent → Given
measures c x = measured (number c x) c x
