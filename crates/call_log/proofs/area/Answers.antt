-- `call_log::area` meets its contract: each place holds what it holds before a call. Assumes nothing.
use lib.Ieee.{nan}
use Rattle.std.proofs.Common.{rules}
use Rattle.laws.proofs.Lists.{is_tab}
use Rattle.call_log.specs.Log.{before}
use Rattle.call_log.proofs.area.Goals as goal

pub returns-clause-value : goal.returns-clause-value
returns-clause-value c = let made = c.from_fn.ensures.items in
    is_tab nan _ 1024 before made.long (λ k h. let w = made.at k nan h in search rules)
