-- `lmf_list::fill` meets its contract. The invariant: what is read is a part of the slice, whose length stays. Each read brings something, or is the last. Assumes nothing.
use mathlib.Core.Path.{sym, ◌∙◌}
use mathlib.Core.Bool.{true≢false}
use native.Mathlib.Omega.{arith}
use Rattle.lmf_list.proofs.Reading.{less, filled}
use Rattle.lmf_list.proofs.fill.Goals as goal

pub loop-input-smaller : goal.loop-input-smaller
loop-input-smaller c = let l = c.loop-input in
    let r = c.read_more-input in
    less _ l.input r.result c.loop-input-test.true (omega (arith, c.if-input-buf.true, l.invariant.0)) r.ensures.from r.ensures.more

pub loop-input-preserved : goal.loop-input-preserved
loop-input-preserved c = (omega arith, c.read_more-input.ensures.within)

pub returns-else-input-buf : goal.returns-else-input-buf
returns-else-input-buf c = filled _ _ c.loop-input.invariant.1 (λ q. c.if-input-buf.false)

pub returns-after-loop-input : goal.returns-after-loop-input
returns-after-loop-input c = filled _ _ c.loop-input.invariant.1 (λ q. absurd (true≢false (sym q ∙ c.loop-input-test.false)))
