-- What the callees ensure, put together, is the definition of the samples and the memory. Assumes nothing.
use mathlib.Core.Path.{◌≡◌, sym, ap, subst, ◌∙◌}
use mathlib.Core.List.{List}
use Prim.Native.Nat.{ℕ, ◌*◌, ◌≤◌}
use native.Mathlib.Omega.{arith}
use lib.Dec.{T}
use lib.ListN.{length}
use lib.Ieee.{Float}
use Rattle.config.specs.Config.{valid, nf, z, ne, half, among, dct_lengths}
use Rattle.config.proofs.Sound.{sound}
use Rattle.windows.specs.Windows.{window}
use Rattle.dct_steps.specs.Dct.{dct_iv}
use Rattle.dct_steps.proofs.Placed.{length-dct_iv}
use Rattle.synthesis_steps.specs.Places.{padded, unfolded, windowed, output, remains}
use Rattle.gains.specs.Gains.{gain, scaled}
use Rattle.synthesis_steps.proofs.Places.{length-padded}
use Rattle.synthesis_steps.proofs.Mirrors.{unfolded-scaled}
use Rattle.synthesis_frame.specs.Frame.{places}
use Rattle.synthesis_overlap.specs.Overlap.{spread}
use Rattle.synthesis_samples.specs.Samples.{places_of, samples_of, memory_of}

-- the slices that a frame lends, for the DCT
pub dct_takes : (c : ℕ) {l n : ℕ} → T (valid c) → l ≡ ne c → n ≡ nf c → (l ≤ n) × T (among dct_lengths n)
dct_takes c v e f = let s = sound c v in (omega arith, subst (λ (n : ℕ). T (among dct_lengths n)) (sym f) s.dct_length)

-- the gain comes before the unfolding in the code, and behind it in the definition
module _ (c : ℕ) (v : T (valid c)) (x : List Float) (ex : length x ≡ ne c) {n : ℕ} {y : List Float} (en : n ≡ nf c) (ey : y ≡ dct_iv (padded n x)) where
  as_many : length (dct_iv (padded (nf c) x)) ≡ 2 * half c
  as_many = let s = sound c v in length-dct_iv (padded (nf c) x) ∙ length-padded (nf c) x (omega arith) ∙ s.even

  made-places : spread c y ≡ places_of c x
  unfolding places_of places
  made-places =
      ap (spread c) (ey ∙ ap (λ (m : ℕ). dct_iv (padded m x)) en)
      ∙ ap (windowed (window c)) (unfolded-scaled (half c) (gain (nf c)) (dct_iv (padded (nf c) x)) as_many)
      ∙ ap (λ (m : ℕ). windowed (window c) (scaled (gain (nf c)) (unfolded (half c) (dct_iv (padded m x))))) (sound c v).even

  pub made-memory : {m : List Float} → m ≡ remains (nf c) (z c) (spread c y) → m ≡ memory_of c x
  unfolding memory_of
  made-memory {m} e = e ∙ ap (remains (nf c) (z c)) made-places

  pub made-samples : (past : List Float) {s : List Float} → s ≡ output (nf c) (z c) past (spread c y) → s ≡ samples_of c past x
  unfolding samples_of
  made-samples past {s} e = e ∙ ap (output (nf c) (z c) past) made-places
