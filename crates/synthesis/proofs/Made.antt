-- What the callees ensure, put together, is the definition of the frame. Assumes nothing.
use mathlib.Core.Path.{◌≡◌, sym, ap, ap₂, ◌∙◌}
use mathlib.Core.List.{List, ◌++◌}
use Prim.Native.Nat.{ℕ, ◌-◌, ◌≤◌}
use native.Mathlib.Omega.{arith}
use lib.ListN.{length, drop, replicate, length-drop}
use lib.Ieee.{Float}
use borrow.Rule.Slice.PartMut.{mid_of, put_mid}
use Rattle.laws.specs.Numbers.{zero32}
use Rattle.config.specs.Config.{nf, z}
use Rattle.config.proofs.Sound.{sound}
use Rattle.synthesis_steps.proofs.Lists.{second-lent, two-parts}
use Rattle.synthesis_samples.specs.Samples.{memory_of}
use Rattle.synthesis.specs.Synthesis.{kept_of, Lent, number}
use Rattle.synthesis.proofs.Frames.{passed}

-- how much of the memory an accepted call keeps; n is the samples' length
pub keeps : (c : ℕ) (x : Lent) → number c x ≡ 0 → {k : ℕ} → k ≡ z c → (k ≤ length x.samples) × (length x.samples - k ≤ 300) × (length x.samples - k ≡ nf c - z c)
keeps c x e {k} f =
    let p = passed c x e in
    let s = sound c p.is_valid in
    (omega arith, omega arith, omega arith)

-- the memory as the channel keeps it: what the frame left, and zeros to the end
pub made_kept : (c n : ℕ) (x old : List Float) {p q : List Float} → length old ≡ 300 → n ≡ nf c - z c → length p ≡ n → p ≡ memory_of c x
    → q ≡ replicate (length (mid_of n (length (p ++ drop n old) - n) (p ++ drop n old))) zero32
    → put_mid n (length (p ++ drop n old) - n) (p ++ drop n old) q ≡ kept_of c x
unfolding kept_of
made_kept c n x old {p} {q} l e o i j =
    let m = ap length (sym i) ∙ o in
    two-parts n old i m (j ∙ ap (λ (k : ℕ). replicate k zero32) (ap length (second-lent n old i m) ∙ length-drop n old ∙ ap₂ (λ (a b : ℕ). a - b) l e))
