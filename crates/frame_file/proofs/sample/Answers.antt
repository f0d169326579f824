-- `frame_file::sample` meets its contract. Assumes nothing.
use native.Mathlib.Omega.{arith}
use mathlib.Core.Path.{◌∙◌}
use Rattle.frame_file.proofs.Signed.{read-is, stored}
use Rattle.frame_file.proofs.sample.Goals as goal

pub returns : goal.returns
returns c = stored c.args.n _ (c.cast_signed.ensures ∙ read-is c.args.n (omega arith)) (omega arith)
