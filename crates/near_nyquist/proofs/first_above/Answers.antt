-- `near_nyquist::first_above` meets its contract. The invariant: the sum is that of the first i energies, and none up to it exceeds the bound. Assumes nothing.
use mathlib.Core.Path.{refl, sym, ◌∙◌}
use mathlib.Core.Bool.{true, false}
use native.Mathlib.Omega.{arith}
use lib.Ieee.{nan}
use borrow.Author.Count.{below_none, below_more}
use Rattle.laws.specs.Numbers.{zero32}
use Rattle.laws.proofs.Lists.{first-at, first-none}
use Rattle.measurement_steps.specs.Energy.{total}
use Rattle.measurement_steps.proofs.Sums.{summed_more}
use Rattle.near_nyquist.specs.Sooner.{running}
use Rattle.near_nyquist.proofs.Sums.{length-running, tested}
use Rattle.near_nyquist.proofs.first_above.Goals as goal

pub loop-i-init : goal.loop-i-init
loop-i-init c = (refl, below_none _)

pub returns-then-sum-bound : goal.returns-then-sum-bound
unfolding total
returns-then-sum-bound c = let a = c.args in
    let es = a.energies.now in
    let l = c.loop-i in
    let more = summed_more (λ x. x) zero32 es l.i l.sum l.invariant.0 (omega arith) in
    first-at _ (running es) nan l.i (omega (arith, length-running es)) l.invariant.1 (tested a.bound es l.i _ true (omega arith) more c.if-sum-bound.true)

pub loop-i-preserved : goal.loop-i-preserved
unfolding total
loop-i-preserved c = let a = c.args in
    let es = a.energies.now in
    let l = c.loop-i in
    let more = summed_more (λ x. x) zero32 es l.i l.sum l.invariant.0 (omega arith) in
    (more, below_more _ _ l.invariant.1 (tested a.bound es l.i _ false (omega arith) more c.if-sum-bound.false))

pub returns : goal.returns
returns c = let es = c.args.energies.now in
    let e = length-running es in
    sym e ∙ first-none _ (running es) nan (λ k u. c.loop-i.invariant.1 k (omega arith))
