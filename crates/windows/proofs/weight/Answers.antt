-- `windows::weight` meets its contract: its requires says that the entry is no NaN's pattern. Assumes nothing.
use Rattle.windows.proofs.weight.Goals as goal

pub float_from_bits-result : goal.float_from_bits-result
float_from_bits-result c = c.requires.1 c.args.k c.requires.0
