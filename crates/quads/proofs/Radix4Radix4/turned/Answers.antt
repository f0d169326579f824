-- `Radix4::turned` meets its contract: the forward column has each part where the direction exchanges it to. Assumes nothing.
use mathlib.Core.Path.{◌∙◌}
use Rattle.columns.specs.Column.{col}
use Rattle.quads.proofs.Read.{exchange4}
use Rattle.quads.proofs.Radix4Radix4.turned.Goals as goal

pub returns : goal.returns
returns c = c.four.ensures ∙ exchange4 c.args.self.inverse (col c.args.column)
