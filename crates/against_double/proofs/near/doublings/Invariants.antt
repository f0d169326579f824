-- `near::doublings` meets its contract. The invariant: n doublings are done, and what is left is counted from d. Assumes nothing.
use Rattle.std.proofs.Common.{◌≡◌, ◌+◌, ◌-◌}
use Rattle.against_double.specs.Near.{doublings}
use Rattle.against_double.proofs.near.doublings.Given as goal

abbrev pub invariant-loop-n : goal.invariant-loop-n
invariant-loop-n l = doublings 60 l.error l.p ≡ l.n + doublings (60 - l.n) l.d l.p
