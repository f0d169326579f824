-- `call_made::measure_read` meets its contract: the lines that it reads are what is measured. Assumes nothing.
use mathlib.Core.Path.{◌∙◌}
use Rattle.call_made.specs.Made.{measure_on}
use Rattle.call_made.proofs.measure_read.Goals as goal

pub returns : goal.returns
returns c = let r = c.read_floats-lengths.ensures in
    record { value = c.measure_on.ensures ∙ (λ j. measure_on c.args.config (r.1 j) (r.0 j)); lines_after = r.1 }
