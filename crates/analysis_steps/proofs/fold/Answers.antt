-- `fold` meets its contract: the two halves, one behind the other. Assumes nothing.
use Prim.Native.Nat.{◌-◌}
use native.Mathlib.Omega.{arith}
use lib.ListN.{length}
use Rattle.analysis_steps.proofs.Folds.{halves}
use Rattle.analysis_steps.proofs.fold.Goals as goal

pub returns : goal.returns
returns c = let st = c in
    let past = st.args.past.now in
    let n = length st.args.out.now in
    let parts = c.split_at_mut-low.ensures in
    let follows = c.then.ensures in
    halves past st.args.input.now st.args.w.now n (n - length past) _ _ st.requires.1 st.requires.2 (omega arith) st.requires.4
    (rw (follows.0, follows.1) at c.fold_low.ensures) parts.front_len c.fold_high.ensures (omega (arith, parts.back_len))
