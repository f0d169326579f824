-- `synthesis_steps::overlapped` meets its contract: the sums of the two calls are those that follow on one another. Assumes nothing.
use mathlib.Core.Path.{sym, ◌∙◌}
use native.Mathlib.Omega.{arith}
use lib.Ieee.{binary32, add}
use Rattle.synthesis_steps.specs.Places.{places}
use Rattle.synthesis_steps.proofs.Lists.{two_sums}
use Rattle.synthesis_steps.proofs.Unfold.{length-places}
use Rattle.synthesis_steps.proofs.overlapped.Goals as goal

pub returns : goal.returns
returns c = let a = c.args in
    let p = c.requires in
    let t = places a.h a.v.now a.w.now in
    let n = length-places a.h a.v.now a.w.now p.2 p.3 in
    let past = c.split_at.ensures in
    let parts = c.split_at_mut-first.ensures in
    two_sums _ _ a.z t (omega (arith, p.1, parts.front_len)) (omega (arith, p, parts.front_len, parts.back_len)) (add binary32) a.memory.now _ _ (omega (arith, n)) past.by_index.0 (past.front_len ∙ sym parts.front_len) c.first_quarter.ensures c.second_quarter.ensures
