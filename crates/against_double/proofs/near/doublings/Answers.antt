-- `near::doublings` meets its contract. The invariant: n doublings are done, and what is left is counted from d. Assumes nothing.
use Rattle.std.proofs.Common.{sym, ◌∙◌, arith}
use Rattle.against_double.proofs.Steps.{doublings-more, doublings-none, doublings_all}
use Rattle.against_double.proofs.near.doublings.Goals as goal

pub loop-n-preserved : goal.loop-n-preserved
loop-n-preserved c = c.loop-n.invariant ∙ doublings-more c.loop-n.n c.loop-n.d c.args.p (omega arith) c.if-not-d-p.false

pub returns-then-not-d-p : goal.returns-then-not-d-p
returns-then-not-d-p c = sym (c.loop-n.invariant ∙ doublings-none c.loop-n.n c.loop-n.d c.args.p (omega arith) c.if-not-d-p.true)

pub returns : goal.returns
returns c = sym (c.loop-n.invariant ∙ doublings_all c.loop-n.n c.loop-n.d c.args.p (omega arith) (omega arith))
