-- `call_log::floats` meets its contract. The invariant: the places passed hold the values (`Filled`). Assumes nothing.
use Rattle.laws.proofs.Lists.{Filled}
use Rattle.call_log.specs.Log.{float_of}
use Rattle.call_log.proofs.floats.Given as goal

abbrev pub invariant-loop-i : goal.invariant-loop-i
invariant-loop-i l = Filled (float_of l.b) l.initial.out l.i l.out
