-- `quads::lane` meets its contract, store by store. Assumes nothing.
use lib.ListN.{length-set}
use native.Mathlib.Omega.{arith}
use Rattle.quads.proofs.lane.Goals as goal

pub bounds-s-k-2 : goal.bounds-s-k-2
bounds-s-k-2 c = simp length-set (omega arith)

pub bounds-s-k-3 : goal.bounds-s-k-3
bounds-s-k-3 c = simp length-set (omega arith)

pub bounds-s-k-4 : goal.bounds-s-k-4
bounds-s-k-4 c = simp length-set (omega arith)
