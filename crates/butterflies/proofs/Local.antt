-- A stage's column looks at the places of its column alone. Assumes nothing.
use mathlib.Core.Path.{refl}
use Prim.Native.Nat.{ℕ}
use Rattle.complex.specs.declared.Complex.{Complex}
use Rattle.quads.specs.Beside.{beside, beside_by}
use Rattle.quads.specs.Radix.{Sees}
use Rattle.quads.proofs.Read.{twist_same}
use Rattle.butterflies.proofs.Columns.{Local}

pub local_by : (p m : ℕ) (b : (ℕ → Complex) → ℕ → Complex) → Sees p b → (u : ℕ → Complex) → Local p m (beside_by b u m)
local_by p m b sees u j c c' e = sees _ _ (twist_same (beside u m j) (beside u m j) c c' p (λ q l. refl) e)
