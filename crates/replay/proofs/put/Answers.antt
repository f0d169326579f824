-- `replay::put` meets its contract: 8 shows the channels, and every other kind its answer. Assumes nothing.
use borrow.Author.Tests.{eq-eqb, ne_eqb}
use Rattle.replay.proofs.put.Goals as goal

pub returns-then-kind-eq8 : goal.returns-then-kind-eq8
returns-then-kind-eq8 c = simp (eq-eqb c.args.kind 8 c.if-kind-eq8.true) c.put_show.ensures

pub returns : goal.returns
returns c = simp (ne_eqb c.args.kind 8 c.if-kind-eq8.false) c.put_answer.ensures
