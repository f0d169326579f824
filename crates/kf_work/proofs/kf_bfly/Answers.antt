-- `kf_work::kf_bfly` meets its contract: each arm knows its radix. Assumes nothing.
use mathlib.Core.Path.{◌≡◌}
use native.Mathlib.Omega.{arith}
use Rattle.kf_work.specs.Packed.{packed_column}
use Rattle.kf_work.proofs.Plan.{at_radix}
use Rattle.kf_work.proofs.kf_bfly.Goals as goal

pub kf_bfly-requires : goal.kf_bfly-requires
kf_bfly-requires c = omega (arith, at_radix _ 2 _ _ _ _ _ c.in-2.is c.requires.3 c.requires.4 c.requires.5 c.requires.6, c.requires.2)

pub kf_bfly-requires-in-3 : goal.kf_bfly-requires-in-3
kf_bfly-requires-in-3 c = omega (arith, at_radix _ 3 _ _ _ _ _ c.in-3.is c.requires.3 c.requires.4 c.requires.5 c.requires.6, c.requires.2)

pub kf_bfly-requires-in_default : goal.kf_bfly-requires-in_default
kf_bfly-requires-in_default c = let last : c.args.p ≡ 4 = omega (arith, c.requires) in
    omega (arith, at_radix _ 4 _ _ _ _ _ last c.requires.3 c.requires.4 c.requires.5 c.requires.6, c.requires.2)

pub returns-in-2 : goal.returns-in-2
unfolding packed_column
returns-in-2 c = rw c.in-2.is c.kf_bfly.ensures

pub returns-in-3 : goal.returns-in-3
unfolding packed_column
returns-in-3 c = rw (c.in-3.is, ← c.get-y.ensures) c.kf_bfly-in-3.ensures

pub returns-in_default : goal.returns-in_default
unfolding packed_column
returns-in_default c = let last : c.args.p ≡ 4 = omega (arith, c.requires) in
    rw last c.kf_bfly-in_default.ensures
