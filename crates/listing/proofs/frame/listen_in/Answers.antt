-- `listing::frame::listen_in` meets its contract: the calls' answers are those of the definition. Assumes nothing.
use Rattle.listing.proofs.Frames.{listened_is}
use Rattle.listing.proofs.frame.listen_in.Goals as goal

pub returns : goal.returns
returns c = let r = c.requires in
    listened_is c.args.channel c.args.input.now _ _ _ _ _ _ c.frame-framed.result c.measure.result c.loudest_band.result r.0 r.1 r.2 c.frame-framed.ensures c.measure.ensures c.loudest_band.ensures c.unwrap_or-flag.ensures c.unwrap_or-loudest.ensures
