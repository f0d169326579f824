-- `dct_steps::twiddle_out` meets its contract. The loop's invariant: the first 2 n places are written. Assumes nothing.
use Prim.Native.Nat.{◌-◌, ◌*◌, ◌≤◌}
use lib.ListN.{length}
use Rattle.laws.proofs.Lists.{Filled}
use Rattle.complex.specs.Complex.{at, times}
use Rattle.dct_steps.specs.Dct.{placed}
use Rattle.dct_steps.proofs.twiddle_out.Given as goal

abbrev pub invariant-loop-n : goal.invariant-loop-n
invariant-loop-n l = (l.n ≤ length l.ar) × Filled (placed (λ k. times (at l.dr l.di k) (at l.ar l.ai k)) (length l.initial.buf)) l.initial.buf (2 * l.n) l.buf

abbrev pub decreases-loop-n : goal.decreases-loop-n
decreases-loop-n l = length l.ar - l.n
