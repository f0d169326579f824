-- `kf_work::copied` meets its contract, number by number. Assumes nothing.
use mathlib.Core.Path.{◌≡◌, ap, ◌∙◌}
use mathlib.Core.List.{[], ◌∷◌}
use Prim.Native.Nat.{◌+◌, ◌*◌}
use native.Mathlib.Omega.{arith}
use Rattle.complex.specs.Complex.{at}
use Rattle.laws.specs.Lists.{tab}
use Rattle.kf_work.proofs.copied.Goals as goal

pub returns : goal.returns
unfolding tab
returns c = let a = c.args in
    let f = at a.x.now a.y.now in
    let none : a.from ≡ a.from + 0 * a.s = omega arith in
    let one : a.from + a.s ≡ a.from + 1 * a.s = omega arith in
    λ z. (c.get.ensures ∙ ap f none) z ∷ (c.get-2.ensures ∙ ap f one) z ∷ c.get-3.ensures z ∷ c.get-4.ensures z ∷ c.get-5.ensures z ∷ []
