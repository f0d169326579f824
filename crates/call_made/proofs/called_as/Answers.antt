-- `call_made::called_as` meets its contract. Assumes nothing.
use mathlib.Core.Path.{ap}
use Rattle.call_made.specs.Made.{called}
use Rattle.call_made.proofs.called_as.Goals as goal

pub returns : goal.returns
returns g c = ap (called c.args.channel) c.plain.ensures
