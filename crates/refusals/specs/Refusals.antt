-- Document 01's refusal numbers by name, in the order in which they are tested, and the verdicts that several calls share. Definitions only.
use Rattle.std.specs.Prelude.{Bool, true, false, not, cond, List, ℕ, eqb, ltb, Float, length, ⊤, Result, Ok, Err}
use Rattle.laws.specs.Lists.{first}
use Rattle.laws.specs.Passes.{passes6, passes7}
use Rattle.config.specs.Config.{valid, nb}
use Rattle.refusals.specs.declared.Verdict.{Verdict}
use Rattle.refusals.specs.declared.Clear.{Clear}
use Rattle.refusals.specs.declared.Refusal.{Refusal}
use Rattle.refusals.specs.declared.Refusal.TheVariants.{BadConfig, BadSize, BadInput, BadOutput, BadEnergies, BadValue, BadEnergy, ShortFile, BadMark, BadVersion, CutFrame}

-- "0 is acceptance"
abbrev pub accepted : ℕ
accepted = 0

-- "configuration above 9"; "1 now begins at 20" (document 02 §1)
abbrev pub bad_config : ℕ
bad_config = 1

-- "FFT size or DCT length not of the table above"; "2 accepts the new sizes" (document 02 §1)
abbrev pub bad_size : ℕ
bad_size = 2

-- "an input slice (or the DCT's buffer) of another length than required"
abbrev pub bad_input : ℕ
bad_input = 3

-- "an output slice of another length"
abbrev pub bad_output : ℕ
bad_output = 4

-- "energies of another length than nb"; at the loudest band "now for exactly nb" (document 02 §2); "the peaks' length is tested by 5, after the energies"
-- (document 02 §12)
abbrev pub bad_energies : ℕ
bad_energies = 5

-- "a line, DCT value or FFT part not finite, or above 2^60 in magnitude; gives the first such index"
abbrev pub bad_value : ℕ
bad_value = 6

-- "an energy handed in that is not finite or below zero; gives the first such index (-0.0 counts as zero)"
abbrev pub bad_energy : ℕ
bad_energy = 7

-- "frame file shorter than 6 bytes"
abbrev pub short_file : ℕ
short_file = 8

-- "mark wrong"
abbrev pub bad_mark : ℕ
bad_mark = 9

-- "version not 1"
abbrev pub bad_version : ℕ
bad_version = 10

-- "last frame of the file cut"
abbrev pub cut_frame : ℕ
cut_frame = 11

-- ---- the paper's number and index for each case of the code's answer
abbrev pub number_of : Refusal → ℕ
number_of BadConfig = bad_config
number_of BadSize = bad_size
number_of BadInput = bad_input
number_of BadOutput = bad_output
number_of BadEnergies = bad_energies
number_of (BadValue i) = bad_value
number_of (BadEnergy i) = bad_energy
number_of ShortFile = short_file
number_of BadMark = bad_mark
number_of BadVersion = bad_version
number_of CutFrame = cut_frame

-- "the index is 0 but for 6 and 7"
abbrev pub index_of : Refusal → ℕ
index_of BadConfig = 0
index_of BadSize = 0
index_of BadInput = 0
index_of BadOutput = 0
index_of BadEnergies = 0
index_of (BadValue i) = i
index_of (BadEnergy i) = i
index_of ShortFile = 0
index_of BadMark = 0
index_of BadVersion = 0
index_of CutFrame = 0

-- ---- verdicts
-- "the index is 0 but for 6 and 7": the verdict with a number of the first six, where i is the first place that does not pass 6
abbrev pub verdict_of : ℕ → ℕ → Verdict
verdict_of n i = record { number = n; index = cond (eqb n bad_value) i 0 }

-- a verdict whose number goes with no place
abbrev pub told : ℕ → Verdict
told n = record { number = n; index = 0 }

-- the verdict that an answer is
abbrev pub told_by : {A : Type 0} → Result A Refusal → Verdict
told_by (Ok a) = told accepted
told_by (Err r) = record { number = number_of r; index = index_of r }

-- values that have passed all but the test of 6
unfoldable pub on_values : List Float → Verdict
on_values x = cond (ltb (first passes6 x) (length x)) (record { number = bad_value; index = first passes6 x }) (told accepted)

-- "A clear is told a configuration alone and gives a fresh channel; above 9 it gives 1 and a channel of configuration 255" (above 19 since document 02 §1): by
-- whether c is a configuration, from what makes a number and a channel's configuration into the answer
abbrev pub clearing : {A : Type 0} → (ℕ → ℕ → A) → Bool → ℕ → A
clearing made true c = made accepted c
clearing made false c = made bad_config 255

-- the test and the configuration alone
abbrev pub on_clear : ℕ → Clear
on_clear c = cond (valid c) (record { told = Ok tt; config = c }) (record { told = Err BadConfig; config = 255 })

-- a call on energies alone, by its tests 1, 5 and 7: what it answers on energies that pass, and beside a refusal
abbrev pub judged : {A : Type 0} → (ℕ → ℕ → A) → A → ℕ → List Float → A
judged refusal answer c l =
    cond (not (valid c)) (refusal bad_config 0)
    (cond (not (eqb (length l) (nb c))) (refusal bad_energies 0)
    (cond (eqb (first passes7 l) (length l)) answer (refusal bad_energy (first passes7 l))))

-- energies, by their tests alone
unfoldable pub on_energies : ℕ → List Float → Verdict
on_energies c l = judged (λ n i. record { number = n; index = i }) (told accepted) c l
