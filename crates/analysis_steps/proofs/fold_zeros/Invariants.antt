-- `fold_zeros` meets its contract. The loop's invariant: the first i places of `out` are filled. Assumes nothing.
use Prim.Native.Nat.{ℕ, ◌+◌, ◌-◌}
use lib.ListN.{length}
use Rattle.laws.proofs.Lists.{Filled}
use Rattle.analysis_steps.specs.Fold.{weighed}
use Rattle.analysis_steps.specs.Runs.{low, still}
use Rattle.analysis_steps.proofs.fold_zeros.Given as goal

abbrev pub invariant-loop-i : goal.invariant-loop-i
invariant-loop-i l = Filled (λ (k : ℕ). low (weighed l.x.t.now l.x.w.now (l.from - 1 - k)) (still l.x.w.now (length l.x.t.now + k))) l.initial.out l.i l.out
