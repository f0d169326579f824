-- `call_made::ask` meets its contract: as many energies are read as the count asks for. Assumes nothing.
use Rattle.call_log.specs.Log.{float_of}
use lib.ListN.{get_or, drop}
use Rattle.call_made.specs.Made.{ask_on}
use Rattle.call_made.proofs.Lends.{lends, read_of}
use Rattle.call_made.proofs.ask.Goals as goal

pub returns : goal.returns
returns c = let s = c in
    let b = s.args.b.now in
    read_of (ask_on (get_or b 1 0)) (float_of (drop 2 b)) (lends s.area-room.ensures s.rest.ensures s.count_places-k.ensures) c.ask_on.ensures.value
