-- The measurement of lines: the second half of an analysis frame (`ModDiscreteCosTrans::run` of the encoder), the peaks beside it (document 02 §12), and the call
-- `measure` (document 02 §5). Definitions only.
use Rattle.std.specs.Prelude.{Bool, false, not, cond, List, ℕ, zero, suc, ◌-◌, leb, ltb, eqb, length, Float, Result, Ok, Err}
use Rattle.laws.specs.Lists.{first}
use Rattle.laws.specs.Passes.{passes6}
use Rattle.config.specs.Config.{valid, nf, nb, rate, upper, edges}
use Rattle.refusals.specs.Refusals as refusals
use Rattle.refusals.specs.declared.Verdict.{Verdict}
use Rattle.refusals.specs.declared.Refusal.{Refusal}
use Rattle.measurement_steps.specs.Energy.{energies, exceeds}
use Rattle.measurement_steps.specs.Peak.{peaks}

-- ---- THE DEFINITION, refusals aside
-- `apply_energy_estimation`
unfoldable pub energies_of : ℕ → List Float → List Float
energies_of c lines = energies (nb c) (edges c) lines

-- "the index, from line 0 of the frame, of its first line with the greatest line·line product", for each band
unfoldable pub peaks_of : ℕ → List Float → List ℕ
peaks_of c lines = peaks (nb c) (edges c) lines

-- `is_near_nyquist`: only at 32 kHz or less
unfoldable pub flag_of : ℕ → List Float → Bool
flag_of c es = cond (leb (rate c) 32000) (exceeds (nb c - upper c) es) false

-- ---- `measure`
-- what a call is lent
pub record Lent : Type 0 where
  pub lines : List Float
  pub energies : List Float
  pub peaks : List ℕ

-- what it gives: number, index and flag, and the slices of energies and peaks at its end
pub record Given : Type 0 where
  pub number : ℕ
  pub index : ℕ
  pub flag : Bool
  pub energies : List Float
  pub peaks : List ℕ

-- the refusals, in the order of document 01's table; "6 now also applies to the second call's lines, tested last"; "the peaks' length is tested by 5, after the energies"
abbrev pub number : ℕ → Lent → ℕ
number c x =
    cond (not (valid c)) refusals.bad_config
    (cond (not (eqb (length x.lines) (nf c))) refusals.bad_input
    (cond (not (eqb (length x.energies) (nb c))) refusals.bad_energies
    (cond (not (eqb (length x.peaks) (nb c))) refusals.bad_energies
    (cond (ltb (first passes6 x.lines) (length x.lines)) refusals.bad_value refusals.accepted))))

-- a number with the index that goes with it: for 6 the first line that does not pass
abbrev pub verdict : ℕ → Lent → Verdict
verdict n x = refusals.verdict_of n (first passes6 x.lines)

-- an accepted call, on its lines
abbrev pub accepted : ℕ → List Float → Given
accepted c l = record { number = refusals.accepted; index = 0; flag = flag_of c (energies_of c l); energies = energies_of c l; peaks = peaks_of c l }

-- a refused call writes nothing
abbrev pub refused_by : ℕ → ℕ → Lent → Given
refused_by n i x = record { number = n; index = i; flag = false; energies = x.energies; peaks = x.peaks }

-- by the number
abbrev pub measured : ℕ → ℕ → Lent → Given
measured zero c x = accepted c x.lines
measured (suc n) c x = refused_by (suc n) (verdict (suc n) x).index x

-- what a measurement gives: the contract of `measure` cites this
unfoldable pub measures : ℕ → Lent → Given
measures c x = measured (number c x) c x

-- ---- for the contract
abbrev pub lent : List Float → List Float → List ℕ → Lent
lent l e p = record { lines = l; energies = e; peaks = p }

-- the flag of an answer, which a refusal does not set
abbrev pub flagged : Result Bool Refusal → Bool
flagged (Ok flag) = flag
flagged (Err r) = false

-- a call's return and the slices of energies and peaks at its end, as the definition has them
abbrev pub outcome : Result Bool Refusal → List Float → List ℕ → Given
outcome r e p = let v = refusals.told_by r in record { number = v.number; index = v.index; flag = flagged r; energies = e; peaks = p }
