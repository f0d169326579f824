-- `fold_high` meets its contract: the run that meets the frame and the past's run, one behind the other. Assumes nothing.
use mathlib.Core.List.{◌++◌}
use Prim.Native.Nat.{◌-◌}
use native.Mathlib.Omega.{arith}
use lib.ListN.{length}
use Rattle.analysis_steps.specs.Fold.{fold_high}
use Rattle.analysis_steps.proofs.Parts.{runs}
use Rattle.analysis_steps.proofs.Folds.{meet_run, past_run}
use Rattle.analysis_steps.proofs.fold_high.Goals as goal

pub returns : goal.returns
returns c = let st = c in
    let past = st.args.past.t.now in
    let x = st.args.x.now in
    let w = st.args.past.w.now in
    let z = st.args.z in
    let h = length st.args.out.now in
    let parts = c.split_at_mut-meets.ensures in
    let follows = c.then.ensures in
    runs z (h - z) (fold_high h w (past ++ x)) (rw (follows.0, follows.1) at c.fold_past.ensures) parts.front_len c.fold_past-2.ensures (omega (arith, parts.back_len)) (omega arith)
    (meet_run past x w z h st.requires.0 st.requires.1) (past_run past x w z h st.requires.0 st.requires.1)
