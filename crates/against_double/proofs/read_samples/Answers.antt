-- `read_samples` is safe: the part of the buffer lies within it. Assumes nothing.
use Rattle.std.proofs.Common.{sym, arith, length-take-le}
use Rattle.against_double.proofs.read_samples.Goals as goal

pub slice_bounds-samples_by-end : goal.slice_bounds-samples_by-end
slice_bounds-samples_by-end c = sym (length-take-le _ _ (omega arith))
