-- `replay::run` is safe: a log whose header is good has its five bytes (`good_long`). Assumes nothing.
use mathlib.Core.Path.{sym, ap, ◌∙◌}
use native.Mathlib.Omega.{arith}
use lib.ListN.{take}
use Rattle.call_log.specs.Log.{header_number}
use Rattle.call_log.proofs.Opened.{good_long}
use Rattle.replay.proofs.Parts.{at_most}
use Rattle.replay.proofs.run.Goals as goal

pub calls-requires : goal.calls-requires
calls-requires c = let f = c.read_full-n in
    let long = good_long (take f.result f.new.buf) (ap header_number (sym c.read_header.ensures ∙ c.in-Ok.is)) in
    record { ordered = omega (arith, at_most f.result f.new.buf); inside = f.ensures.in_bounds }
