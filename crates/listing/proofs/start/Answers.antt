-- `listing::start` meets its contract: the channel is the fresh one. Assumes nothing.
use mathlib.Core.Path.{ap}
use Rattle.analysis.specs.Analysis.{Cleared}
use Rattle.listing.specs.declared.Lister.{Lister}
use Rattle.listing.proofs.start.Goals as goal

abbrev fresh : Cleared → Lister
fresh r = record { channel = r.channel; count = 0 }

pub returns : goal.returns
returns c = ap fresh c.clear.ensures
