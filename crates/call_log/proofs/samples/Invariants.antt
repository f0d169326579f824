-- `call_log::samples` meets its contract. The invariant: the places passed hold the samples (`Filled`). Assumes nothing.
use Rattle.laws.proofs.Lists.{Filled}
use Rattle.call_log.specs.Log.{sample_of}
use Rattle.call_log.proofs.samples.Given as goal

abbrev pub invariant-loop-i : goal.invariant-loop-i
invariant-loop-i l = Filled (sample_of l.b) l.initial.out l.i l.out
