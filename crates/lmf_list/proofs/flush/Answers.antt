-- `lmf_list::flush` is safe: what it writes is a part of the slice. Assumes nothing.
use mathlib.Core.Path.{sym}
use lib.Seq.{length-take-le}
use Rattle.lmf_list.proofs.flush.Goals as goal

pub slice_bounds-write_all-end : goal.slice_bounds-write_all-end
slice_bounds-write_all-end c = let a = c.args in
    sym (length-take-le a.n a.out.now c.requires)
