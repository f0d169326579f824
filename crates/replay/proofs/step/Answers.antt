-- `replay::step` meets its contract: the lemmas of `Steps`, one for each return. Assumes nothing.
use mathlib.Core.Path.{refl, sym}
use lib.Seq.{length-take-le}
use native.Mathlib.Omega.{arith}
use Rattle.replay.specs.Steps.{bench_after}
use Rattle.replay.proofs.Steps.{after_call, no_room, last_line, a_call}
use Rattle.replay.proofs.step.Goals as goal

pub returns-then-out-at : goal.returns-then-out-at
unfolding bench_after
returns-then-out-at c = let a = c.args in
    let x = no_room a.bench a.b.now a.out.now a.at a.count c.if-out-at.true in
    record { used_value = (x.0, refl); at_after = x.1; used_in_bounds = omega arith }

pub returns-then-n-eq0 : goal.returns-then-n-eq0
unfolding bench_after
returns-then-n-eq0 c = let a = c.args in
    let x = last_line a.bench a.b.now a.out.now a.at a.count c.if-out-at.false c.taken-n.ensures.value c.if-n-eq0.true c.last.ensures in
    record { used_value = (x.0, refl); at_after = x.1; used_in_bounds = omega arith }

pub slice_bounds-made-end : goal.slice_bounds-made-end
slice_bounds-made-end c = sym (length-take-le c.taken-n.result c.args.b.now c.taken-n.ensures.upper_bound)

pub returns : goal.returns
returns c = let a = c.args in
    let z = c.if-n-eq0.false in
    let kind = c.byte_at-kind.ensures in
    let next = after_call a.bench a.b.now z kind c.made-next.ensures in
    let x = a_call a.bench a.b.now a.out.now a.at a.count c.if-out-at.false c.taken-n.ensures.value z kind next c.put.ensures in
    record { used_value = (x.0, next); at_after = x.1; used_in_bounds = c.taken-n.ensures.upper_bound }
