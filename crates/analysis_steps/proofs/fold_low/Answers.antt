-- `fold_low` meets its contract: the frame's run and the run that meets the zeros, one behind the other. Assumes nothing.
use mathlib.Core.List.{◌++◌}
use Prim.Native.Nat.{◌+◌, ◌-◌}
use native.Mathlib.Omega.{arith}
use lib.ListN.{length}
use Rattle.analysis_steps.specs.Runs.{quiet, low_at}
use Rattle.analysis_steps.proofs.Parts.{runs}
use Rattle.analysis_steps.proofs.Folds.{frame_run, zeros_run}
use Rattle.analysis_steps.proofs.fold_low.Goals as goal

pub returns : goal.returns
returns c = let st = c in
    let x = st.args.x.t.now in
    let w = st.args.x.w.now in
    let z = st.args.z in
    let h = length st.args.out.now in
    let parts = c.split_at_mut-within.ensures in
    runs (h - z) (h - (h - z)) (low_at (x ++ quiet z) w (h + z)) c.fold_frame.ensures parts.front_len c.fold_zeros.ensures (omega (arith, parts.back_len)) (omega arith)
    (frame_run x w z h st.requires.0 st.requires.1) (zeros_run x w z h st.requires.0 st.requires.1)
