-- `start` meets its contract: the scan begins at the first line. Assumes nothing.
use Rattle.measurement_steps.proofs.Peaks.{start_is}
use Rattle.measurement_steps.proofs.start.Goals as goal

pub returns : goal.returns
returns c = λ width. start_is width c.args.lines.now _ c.requires c.square.ensures
