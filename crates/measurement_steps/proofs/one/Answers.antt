-- `one` meets its contract: its share by the width 1.0, added to 0.0. Assumes nothing.
use mathlib.Core.Path.{refl}
use native.Mathlib.Nat.{add-zero}
use native.Mathlib.Omega.{arith}
use lib.ListN.{take, drop, length-drop}
use lib.Seq.{length-take-le}
use lib.Ieee.{of_bits, of_int}
use Rattle.laws.specs.Lists.{tab}
use Rattle.measurement_steps.proofs.Sums.{stretch, is_energy}
use Rattle.measurement_steps.proofs.one.Goals as goal

pub returns : goal.returns
unfolding tab of_bits of_int
returns c = let i = c.args.i in
    let ls = c.args.lines.now in
    is_energy (take 1 (drop i ls)) 1 _ _
    (simp (c.square.ensures, stretch 1 i ls (omega arith), add-zero))
    (length-take-le 1 (drop i ls) (omega (arith, length-drop i ls)))
    refl
