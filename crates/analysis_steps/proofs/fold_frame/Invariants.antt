-- `fold_frame` meets its contract. The loop's invariant: the first i places of `out` are filled. Assumes nothing.
use Rattle.laws.proofs.Lists.{Filled}
use Rattle.analysis_steps.specs.Runs.{low_at}
use Rattle.analysis_steps.proofs.fold_frame.Given as goal

abbrev pub invariant-loop-i : goal.invariant-loop-i
invariant-loop-i l = Filled (low_at l.x.t.now l.x.w.now l.from) l.initial.out l.i l.out
