-- `analysis::clear` meets its contract: its channel is of the configuration that the clear is told. Assumes nothing.
use Rattle.refusals.proofs.Clears.{made_of}
use Rattle.analysis.specs.Analysis.{cleared_as, cleared}
use Rattle.analysis.proofs.clear.Goals as goal

pub returns : goal.returns
unfolding cleared
returns c = let clear = c.on_clear-clear in
    rw c.silent.ensures (made_of cleared_as _ clear.result clear.ensures)
