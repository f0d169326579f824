-- `total` meets its contract: the library's fold, in the order of the energies. Assumes nothing.
use mathlib.Core.Path.{◌≡◌, ◌∙◌}
use native.Mathlib.Omega.{arith}
use lib.Ieee.{Float, binary32, add}
use Rattle.std.specs.Prelude.{fold}
use Rattle.std.proofs.lemmas.Grind.{common_steps}
use Rattle.laws.specs.Numbers.{zero32}
use Rattle.measurement_steps.specs.Energy.{total}
use Rattle.measurement_steps.proofs.Sums.{fold_sums}
use Rattle.measurement_steps.proofs.total.Goals as goal

pub returns : goal.returns
unfolding total
returns c = let e : c.fold.result ≡ fold (λ (a x : Float). add binary32 a x) zero32 c.args.es.now = grind (arith, common_steps) in
    e ∙ fold_sums zero32 c.args.es.now
