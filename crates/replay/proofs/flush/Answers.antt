-- `replay::flush` is safe: what is written is a part of the output. Assumes nothing.
use mathlib.Core.Path.{sym}
use native.Mathlib.Omega.{arith}
use lib.Seq.{length-take-le}
use Rattle.replay.proofs.flush.Goals as goal

pub slice_bounds-write_all-end : goal.slice_bounds-write_all-end
slice_bounds-write_all-end c = let a = c.args in sym (length-take-le a.at a.out.now (omega arith))
