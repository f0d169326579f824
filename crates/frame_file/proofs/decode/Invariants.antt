-- `frame_file::decode` meets its contract. The invariant: the samples passed are decoded. Assumes nothing.
use Prim.Native.Nat.{◌*◌}
use Rattle.laws.proofs.Lists.{Filled}
use Rattle.frame_file.specs.File.{short_at, signed}
use Rattle.frame_file.proofs.decode.Given as goal

abbrev pub invariant-loop-i : goal.invariant-loop-i
invariant-loop-i l = Filled (λ k. signed (short_at l.bytes (2 * k))) l.initial.out l.i l.out
