-- What is known where a record is a frame, and that no frame is longer than 480 samples. Assumes nothing.
use mathlib.Core.Path.{◌≡◌, refl, sym, ap, subst}
use mathlib.Core.Logic.{⊎_elim}
use mathlib.Core.Bool.{Bool, true, false, cond}
use mathlib.Core.List.{List}
use Prim.Native.Nat.{ℕ, ◌≤◌}
use native.Mathlib.Omega.{arith}
use lib.Dec.{T, ltb, eqb}
use lib.ListN.{length, get_or-eq_default}
use borrow.Author.Tests.{ltb-true, ltb-false}
use Rattle.laws.proofs.Bools.{outcomes}
use Rattle.config.specs.Config.{valid, configs, row, nf, none}
use Rattle.config.specs.declared.Lc3Config.{Lc3Config}
use Rattle.config.specs.Tables.{rows}
use Rattle.config.proofs.Sound.{sound, lt-valid}
use Rattle.std.specs.Prelude.{Result, Ok, Err}
use Rattle.refusals.specs.declared.Refusal.{Refusal}
use Rattle.refusals.specs.declared.Refusal.TheVariants.{BadConfig, CutFrame}
use Rattle.frame_file.specs.declared.Record.{Record}
use Rattle.frame_file.specs.declared.Record.TheVariants.{Frame, End}
use Rattle.frame_file.specs.File.{frame_bytes, record_of}

-- how many bytes a record uses
abbrev pub used_of : Record → ℕ
used_of (Frame used) = used
used_of End = 0

abbrev pub used_by : Result Record Refusal → ℕ
used_by (Ok found) = used_of found
used_by (Err refusal) = 0

abbrev frame? : Record → ℕ
frame? (Frame used) = 1
frame? End = 0

abbrev framed? : Result Record Refusal → ℕ
framed? (Ok found) = frame? found
framed? (Err refusal) = 0

pub record Whole (c : ℕ) (f : List ℕ) (used : ℕ) : Type 0 where
  pub known : T (valid c)
  pub uses : used ≡ frame_bytes c
  pub room : frame_bytes c ≤ length f

-- the tests of `record_of`, one by one
decided : (v e s : Bool) (n used : ℕ) → cond v (cond e (Ok End) (cond s (Err CutFrame) (Ok (Frame n)))) (Err BadConfig) ≡ Ok (Frame used) → (v ≡ true) × (s ≡ false) × (used ≡ n)
decided true true s n used q = let o : ◌≡◌ {A = ℕ} 0 1 = ap framed? q in absurd (omega arith)
decided true false true n used q = let o : ◌≡◌ {A = ℕ} 0 1 = ap framed? q in absurd (omega arith)
decided true false false n used q = (refl, refl, sym (ap used_by q))
decided false e s n used q = let o : ◌≡◌ {A = ℕ} 0 1 = ap framed? q in absurd (omega arith)

pub whole : (c : ℕ) (f : List ℕ) (used : ℕ) → record_of c f ≡ Ok (Frame used) → Whole c f used
unfolding record_of
whole c f used q =
    let d = decided (valid c) (eqb (length f) 0) (ltb (length f) (frame_bytes c)) (frame_bytes c) used q in
    record { known = subst T (sym d.0) tt; uses = d.2; room = ltb-false (length f) (frame_bytes c) d.1 }

rows_all : length configs ≡ length rows
unfolding rows
rows_all = refl

-- past the last configuration every column is 0
past : {c : ℕ} → length configs ≤ c → nf c ≤ 480
unfolding row
past {c} h = let e = get_or-eq_default rows none {n = c} (omega (arith, rows_all)) in subst (λ (r : Lc3Config). r.nf ≤ 480) (sym e) (omega arith)

pub nf_most : (c : ℕ) → nf c ≤ 480
nf_most c =
    ⊎_elim
    (λ l. (sound c (lt-valid c (ltb-true c (length configs) l))).nf_le)
    (λ l. past (ltb-false c (length configs) l))
    (outcomes (ltb c (length configs)))
