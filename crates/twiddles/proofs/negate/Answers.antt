-- `twiddles::negate` meets its contract: one more number is negated. Assumes nothing.
use borrow.Author.Rules.{rules}
use lib.Ieee.{neg}
use Rattle.std.proofs.lemmas.List.Edits.{map_over_more}
use Rattle.twiddles.proofs.negate.Goals as goal

pub loop-x-preserved : goal.loop-x-preserved
loop-x-preserved c = map_over_more neg c.args.im.now c.loop-x.im c.loop-x.x-index _ (search rules) c.loop-x.invariant (search rules)
