-- `judge` meets its contract: past the tests of the lengths, that of the lines is the definition's last. Assumes nothing.
use mathlib.Core.Path.{ap}
use mathlib.Core.Bool.{not}
use native.Mathlib.Omega.{arith}
use Rattle.measurement.specs.Measurement.{lent}
use Rattle.measurement.proofs.Verdicts.{says-rest}
use Rattle.measurement.proofs.judge.Goals as goal

pub returns : goal.returns
returns c = let a = c.args in
    says-rest a.c (lent a.lines.now a.energies.now a.peaks.now) c.valid.ensures (ap not c.if-not-valid.false) (omega arith) (omega arith) (omega arith) c.on_values.ensures
