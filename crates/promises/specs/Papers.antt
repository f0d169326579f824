-- What the answers that are enums come to in the paper's terms, for any input: the number, and the values beside it. Definitions only.
use Rattle.std.specs.Prelude.{ℕ, ◌*◌, ◌≤◌, ◌<◌, ◌≡◌, true, List, [], ◌∷◌, length, get_or, take, Float}
use Rattle.std.specs.Float.{nan}
use Rattle.laws.specs.Lists.{first}
use Rattle.laws.specs.Passes.{passes7}
use Rattle.config.specs.Config.{largest, nf, nb, edges}
use Rattle.refusals.specs.Refusals.{accepted, cut_frame}
use Rattle.refusals.specs.Refusals as refusals
use Rattle.laws.specs.Greatest.{best}
use Rattle.loudest.specs.Loudest.{products, silent, heard, of_loud, of_quiet, of_refusal, paper}
use Rattle.frame_file.specs.File.{lmf, byte, short_at, header_of, record_of}
use Rattle.frame_file.specs.Paper.{Paper, header_paper, record_paper}
use Rattle.call_log.specs.Log.{lmc}
use Rattle.call_log.specs.Log as log
use Rattle.call_log.specs.Paper as log_paper

-- what is told of a file's header
abbrev pub of_file : List ℕ → Paper
of_file f = header_paper (header_of lmf f)

-- what is told of the bytes that are left of a file of configuration c
abbrev pub of_rest : ℕ → List ℕ → Paper
of_rest c f = record_paper (record_of c f)

-- what is told of a log's header
abbrev pub of_log : List ℕ → Paper
of_log b = log_paper.header_paper (log.header_of b)

-- how many bytes the call at their front is said to take
abbrev pub of_call : List ℕ → List ℕ
of_call b = log_paper.taken_values (log.call_taken b)

-- a number and no values
abbrev pub alone : ℕ → Paper
alone n = record { number = n; values = [] }

-- acceptance with values
abbrev pub beside : List ℕ → Paper
beside values = record { number = accepted; values = values }

pub record Papers : Type 0 where
  -- the loudest band at a configuration above the largest: 1, with index 0 and no values, whatever the energies
  pub no_config : (c : ℕ) (l : List Float) → largest < c → paper (heard c l) ≡ of_refusal refusals.bad_config 0
  -- at a configuration, of another number of energies than it has bands: 5, with index 0 and no values
  pub bad_energies : (c : ℕ) (l : List Float) → c ≤ largest → (length l ≡ nb c → ⊥) → paper (heard c l) ≡ of_refusal refusals.bad_energies 0
  -- of as many as it has bands, of which one does not pass: 7, with the first such index and no values
  pub bad_energy : (c : ℕ) (l : List Float) → c ≤ largest → length l ≡ nb c → first passes7 l < length l → paper (heard c l) ≡ of_refusal refusals.bad_energy (first passes7 l)
  -- of as many zeros: 0 and no values
  pub quiet : (c : ℕ) (l : List Float) → c ≤ largest → length l ≡ nb c → ((k : ℕ) → k < length l → silent (get_or l k nan) ≡ true) → paper (heard c l) ≡ of_quiet
  -- of as many that pass, of which one is not zero: 0, with the scan's band and its product, which `p12_any` of P says is the first with the greatest
  pub loud : (c : ℕ) (l : List Float) → c ≤ largest → length l ≡ nb c → first passes7 l ≡ length l → first silent l < length l
      → let ps = products (edges c) l in paper (heard c l) ≡ of_loud (best ps (length l)) (get_or ps (best ps (length l)) nan)
  -- a file shorter than 6 bytes: 8
  pub short_file : (f : List ℕ) → length f < 6 → of_file f ≡ alone refusals.short_file
  -- 6 bytes or more, the first three not `LMF`: 9
  pub bad_mark : (f : List ℕ) → 6 ≤ length f → (take 3 f ≡ lmf → ⊥) → of_file f ≡ alone refusals.bad_mark
  -- `LMF`, and a version that is not 1: 10
  pub bad_version : (f : List ℕ) → 6 ≤ length f → take 3 f ≡ lmf → (short_at f 3 ≡ 1 → ⊥) → of_file f ≡ alone refusals.bad_version
  -- `LMF` of version 1, and a configuration above the largest: 1
  pub bad_config : (f : List ℕ) → 6 ≤ length f → take 3 f ≡ lmf → short_at f 3 ≡ 1 → largest < byte f 5 → of_file f ≡ alone refusals.bad_config
  -- else 0, with version 1 and the configuration byte
  pub good : (f : List ℕ) → 6 ≤ length f → take 3 f ≡ lmf → short_at f 3 ≡ 1 → byte f 5 ≤ largest → of_file f ≡ beside (1 ∷ byte f 5 ∷ [])
  -- no bytes left of a file: 0 and no value, its end
  pub at_end : (c : ℕ) → c ≤ largest → of_rest c [] ≡ alone accepted
  -- some left, but fewer than a frame's 2 nf: 11
  pub cut : (c : ℕ) (f : List ℕ) → c ≤ largest → 0 < length f → length f < 2 * nf c → of_rest c f ≡ alone cut_frame
  -- a frame's bytes or more: 0, with the frame's bytes
  pub whole : (c : ℕ) (f : List ℕ) → c ≤ largest → 2 * nf c ≤ length f → of_rest c f ≡ beside (2 * nf c ∷ [])
  -- a configuration above the largest: 1, whatever the bytes
  pub astray : (c : ℕ) (f : List ℕ) → largest < c → of_rest c f ≡ alone refusals.bad_config
  -- a log shorter than 5 bytes: 8
  pub short_log : (b : List ℕ) → length b < 5 → of_log b ≡ alone refusals.short_file
  -- 5 bytes or more, the first three not `LMC`: 9
  pub bad_log_mark : (b : List ℕ) → 5 ≤ length b → (take 3 b ≡ lmc → ⊥) → of_log b ≡ alone refusals.bad_mark
  -- `LMC`, and a version that is not 3: 10
  pub bad_log_version : (b : List ℕ) → 5 ≤ length b → take 3 b ≡ lmc → (short_at b 3 ≡ 3 → ⊥) → of_log b ≡ alone refusals.bad_version
  -- else 0, and no value
  pub good_log : (b : List ℕ) → 5 ≤ length b → take 3 b ≡ lmc → short_at b 3 ≡ 3 → of_log b ≡ alone accepted
  -- a clear takes its kind and its configuration
  pub whole_call : (c : ℕ) (b : List ℕ) → of_call (1 ∷ c ∷ b) ≡ 2 ∷ []
  -- cut after its kind it is stopped
  pub cut_call : of_call (1 ∷ []) ≡ []
