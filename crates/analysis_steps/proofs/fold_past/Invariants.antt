-- `fold_past` meets its contract. The loop's invariant: the first i places of `out` are filled. Assumes nothing.
use Prim.Native.Nat.{ℕ, ◌+◌, ◌-◌}
use lib.Ieee.{binary32, sub}
use Rattle.laws.proofs.Lists.{Filled}
use Rattle.analysis_steps.specs.Fold.{weighed}
use Rattle.analysis_steps.proofs.fold_past.Given as goal

abbrev pub invariant-loop-i : goal.invariant-loop-i
invariant-loop-i l = Filled (λ (k : ℕ). sub binary32 (weighed l.past.t.now l.past.w.now (l.from + k)) (weighed l.x.t.now l.x.w.now (l.to - 1 - k))) l.initial.out l.i l.out
