-- `ones` meets its contract. The loop's invariant: the first b places of both slices are filled. Assumes nothing.
use mathlib.Core.Path.{◌≡◌, refl}
use native.Mathlib.Omega.{arith}
use lib.ListN.{length}
use lib.Ieee.{nan}
use Rattle.laws.proofs.Lists.{filled_none, filled_more, filled_all}
use Rattle.measurement_steps.proofs.ones.Goals as goal

pub loop-b-init : goal.loop-b-init
loop-b-init c = (filled_none _ _, filled_none _ _)

pub loop-b-preserved : goal.loop-b-preserved
loop-b-preserved c = let l = c.loop-b in
    (filled_more _ nan l.invariant.0 (omega arith) c.one.ensures, filled_more _ 0 l.invariant.1 (omega arith) refl)

pub returns : goal.returns
returns c = let l = c.loop-b in
    let a = c.args in
    let same : length a.places.now ≡ length a.out.now = omega arith in
    (filled_all l.invariant.0 (omega arith), rw same at (filled_all l.invariant.1 (omega arith)))
