-- What the callees ensure, put together, is the definition of the lines. Assumes nothing.
use mathlib.Core.Path.{◌≡◌, sym, ap, ap₂, subst, ◌∙◌}
use mathlib.Core.List.{List}
use Prim.Native.Nat.{ℕ, ◌+◌, ◌-◌}
use native.Mathlib.Omega.{arith}
use lib.Dec.{T}
use lib.IntN.{ℤ}
use lib.ListN.{length}
use lib.Ieee.{Float}
use Rattle.config.specs.Config.{valid, nf, z, among, dct_lengths}
use Rattle.config.proofs.Sound.{sound}
use Rattle.windows.specs.Windows.{window}
use Rattle.dct_steps.specs.Dct.{dct_iv}
use Rattle.analysis_steps.specs.Buffer.{buffer_step, buffer_of}
use Rattle.analysis_steps.specs.Fold.{folded}
use Rattle.gains.specs.Gains.{gain, scaled}
use Rattle.analysis_lines.specs.Lines.{time_buffer, mdct, lines_of}

-- a configuration's frame has a length that the DCT takes
pub dct_takes : (c n : ℕ) → T (valid c) → n ≡ nf c → T (among dct_lengths n)
dct_takes c n v e = subst (λ (m : ℕ). T (among dct_lengths m)) (sym e) (sound c v).dct_length

module _ (c : ℕ) (past x : List ℤ) (v : T (valid c)) (hp : length past ≡ nf c - z c) (hx : length x ≡ nf c) where
  -- the past and the zeros are a frame's length
  pub fits : length past + z c ≡ nf c
  fits = let s = sound c v in omega arith

-- the time buffer, folded with the window
pub made_fold : (c n : ℕ) (past x : List ℤ) {w : List ℕ} {a : List Float} → T (valid c) → length past ≡ nf c - z c → n ≡ nf c → w ≡ window c
    → a ≡ folded n w (buffer_step n (n - length past) (buffer_of n (n - length past) past) x) → a ≡ folded (nf c) (window c) (time_buffer c past x)
unfolding time_buffer
made_fold c n past x v ep en ew e =
    let s = sound c v in
    let k : n - length past ≡ z c = omega arith in
    e ∙ (λ j. folded (en j) (ew j) (buffer_step (en j) (k j) (buffer_of (en j) (k j) past) x))

-- then DCT and gain
pub made-lines : (c k : ℕ) (past x : List ℤ) {g : Float} {a b d : List Float} → a ≡ folded (nf c) (window c) (time_buffer c past x) → b ≡ dct_iv a → g ≡ gain k → k ≡ nf c → d ≡ scaled g b → d ≡ lines_of c past x
unfolding lines_of mdct
made-lines c k past x ea eb eg ek ed = ed ∙ ap₂ scaled (eg ∙ ap gain ek) (eb ∙ ap dct_iv ea)
