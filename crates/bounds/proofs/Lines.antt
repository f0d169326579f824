-- The lines of any samples: fold, DCT, gain. Assumes nothing.
use mathlib.Core.Path.{◌≡◌, refl, ap₂, ◌∙◌}
use mathlib.Core.List.{List}
use Prim.Native.Nat.{ℕ, ◌+◌, ◌-◌, ◌*◌, ◌^◌, ◌<◌}
use native.Mathlib.Omega.{arith}
use lib.IntN.{ℤ, pos}
use lib.Dec.{T, lit<, lit≤}
use lib.ListN.{length, get_or, length-append}
use lib.Ieee.{Float, binary32, mul}
use mir.Syntax.{w16}
use mir.Val.{SFits}
use Rattle.laws.specs.Lists.{tab}
use Rattle.laws.proofs.Lists.{length-tab, length-map}
use Rattle.config.specs.Config.{valid, nf, half}
use Rattle.config.proofs.Sound.{sound}
use Rattle.windows.specs.Windows.{window}
use Rattle.dct_steps.specs.Dct.{dct_iv}
use Rattle.dct_steps.proofs.Placed.{length-dct_iv}
use Rattle.analysis_steps.specs.Fold.{weighed, fold_low, fold_high, folded}
use Rattle.gains.specs.Gains.{gain, scaled}
use Rattle.analysis_lines.specs.Lines.{mdct}
use Rattle.bounds.specs.Within.{Within, Each}
use Rattle.bounds.specs.Size.{Size}
use Rattle.bounds.proofs.Bound.{room, minus, less, product, raise, plain, sample}
use Rattle.bounds.proofs.Lists.{each_append, each-tab, each_or, each_map}
use Rattle.bounds.proofs.Tables.{plan_grows, gain-size, entry_size}
use Rattle.bounds.proofs.Dct.{dct-bound}

module _ (c : ℕ) (v : T (valid c)) (t : List ℤ) where
  even : nf c ≡ 2 * half c
  even = (sound c v).even

  length-folded : length (folded (nf c) (window c) t) ≡ nf c
  unfolding folded half
  length-folded =
      length-append (tab (half c) (fold_low (half c) (window c) t)) (tab (half c) (fold_high (half c) (window c) t))
      ∙ ap₂ ◌+◌ (length-tab (half c) (fold_low (half c) (window c) t)) (length-tab (half c) (fold_high (half c) (window c) t)) ∙ omega (arith, even)

  pub length-mdct : length (mdct c t) ≡ nf c
  unfolding mdct scaled
  length-mdct = length-map (λ (x : Float). mul binary32 x (gain (nf c))) (dct_iv (folded (nf c) (window c) t)) ∙ length-dct_iv (folded (nf c) (window c) t) ∙ length-folded

  module _ (samples : Each (SFits w16) t) where
    -- 2 ^ 16: a sample is at most 2 ^ 15, an entry of the window at most 2
    weighed-size : (k : ℕ) → k < 4 * half c → Size 165 1 (weighed t (window c) k)
    unfolding weighed
    weighed-size k h =
        product (room (lit≤ tt) tt) refl (sample (get_or t k (pos 0)) (each_or (pos 0) k (record { sfits = lit< tt }) samples)) (entry_size c v k (omega (arith, even)))

    -- 2 ^ 17
    folded-size : Each (Size 166 1) (folded (nf c) (window c) t)
    unfolding folded fold_low fold_high half
    folded-size =
        each_append
        (each-tab (half c) _ (λ i l. raise 1 1 (less (room (lit≤ tt) tt) (minus (weighed-size (3 * half c - 1 - i) (omega arith))) (weighed-size (3 * half c + i) (omega arith)))))
        (each-tab (half c) _ (λ i l. raise 1 1 (less (room (lit≤ tt) tt) (weighed-size i (omega arith)) (weighed-size (2 * half c - 1 - i) (omega arith)))))

    -- 2 ^ (20 + growth) after the DCT, 2 ^ 30 after the gain
    pub lines-bound : Each (Within (2 ^ 30) 1) (mdct c t)
    unfolding mdct scaled
    lines-bound =
        let s = sound c v in
        let g = plan_grows c v in
        each_map (λ (x : Float). mul binary32 x (gain (nf c)))
        (λ x h. plain 30 (product (room (lit≤ tt) tt) (omega (arith, g)) h (gain-size c v)))
        (dct-bound (half c) s.fft_size 166 (omega (arith, g)) (folded (nf c) (window c) t) (length-folded ∙ even) folded-size)
