-- `near::long` meets its contract. Assumes nothing.
use Rattle.std.proofs.Common.{ap, ◌∙◌, arith}
use Rattle.call_log.specs.Log.{word}
use Rattle.against_double.proofs.near.long.Goals as goal

pub returns : goal.returns
returns c = omega (arith, c.word-2.ensures ∙ ap word c.rest.ensures, c.word.ensures)
