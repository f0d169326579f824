-- `synthesis::judge` meets its contract: the tests are the definition's, in its order. Assumes nothing.
use mathlib.Core.Path.{sym, ◌∙◌}
use native.Mathlib.Omega.{arith}
use Rattle.synthesis.specs.Synthesis.{lent}
use Rattle.synthesis.proofs.Frames.{says-rest}
use Rattle.synthesis.proofs.judge.Goals as goal

pub returns : goal.returns
returns c =
    says-rest c.args.c (lent c.args.lines.now c.args.samples.now) (sym c.valid.ensures ∙ c.if-not-valid.false) (omega arith) (omega arith) c.on_values.ensures
