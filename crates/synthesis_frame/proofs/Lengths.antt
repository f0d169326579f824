-- How many places a frame has. Assumes nothing.
use mathlib.Core.Path.{◌≡◌, sym, ◌∙◌}
use mathlib.Core.List.{List}
use Prim.Native.Nat.{ℕ, ◌*◌, ◌≤◌}
use lib.ListN.{length}
use lib.Ieee.{Float}
use Rattle.dct_steps.specs.Dct.{dct_iv}
use Rattle.dct_steps.proofs.Placed.{length-dct_iv}
use Rattle.synthesis_steps.specs.Places.{padded, unfolded}
use Rattle.gains.specs.Gains.{scaled}
use Rattle.synthesis_steps.proofs.Places.{length-padded, length-scaled, length-windowed}
use Rattle.synthesis_steps.proofs.Mirrors.{length-unfolded}
use Rattle.synthesis_frame.specs.Frame.{places}

pub length-places : (h : ℕ) (g : Float) (w : List ℕ) (x : List Float) → length x ≤ 2 * h → length w ≡ 4 * h → length (places h g w x) ≡ 4 * h
unfolding places
length-places h g w x b e =
    let l = length-scaled g (unfolded h (dct_iv (padded (2 * h) x))) ∙ length-unfolded h (dct_iv (padded (2 * h) x)) (length-dct_iv (padded (2 * h) x) ∙ length-padded (2 * h) x b) in
    length-windowed w (scaled g (unfolded h (dct_iv (padded (2 * h) x)))) (e ∙ sym l) ∙ l
