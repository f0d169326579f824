-- `call_log::peaks` meets its contract: each place holds its number and 7. Assumes nothing.
use Rattle.std.proofs.Common.{rules}
use Rattle.laws.proofs.Lists.{is_tab}
use Rattle.call_log.specs.Log.{before_peak}
use Rattle.call_log.proofs.peaks.Goals as goal

pub returns-clause-value : goal.returns-clause-value
returns-clause-value c = let made = c.from_fn.ensures.items in
    is_tab 0 _ 1024 before_peak made.long (λ k h. let w = made.at k 0 h in search rules)
