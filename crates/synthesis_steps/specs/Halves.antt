-- What is promised of the halves of an unfolded frame. Definitions only.
use Rattle.std.specs.Prelude.{◌≡◌, ℕ, ◌*◌, Float}
use mathlib.Core.List.{List}
use Rattle.std.proofs.Math.ListN.{length}
use Rattle.synthesis_steps.specs.Places.{unfolded, Mirrors}
use Rattle.gains.specs.Gains.{scaled}

pub record Halves : Type 0 where
  -- "Before the window, the unfolded first half is antisymmetric and the second symmetric, bit for bit": of any 2 h values, whatever the gain
  pub unfold_mirrors : (h : ℕ) (b : List Float) → length b ≡ 2 * h → (g : Float) → Mirrors h (scaled g (unfolded h b))
