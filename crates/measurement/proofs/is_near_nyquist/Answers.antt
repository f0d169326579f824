-- `is_near_nyquist` meets its contract, above 32 kHz and up to it. Assumes nothing.
use native.Mathlib.Omega.{arith}
use Rattle.config.proofs.Sound.{sound}
use Rattle.measurement.proofs.Made.{flag_off, flag_on}
use Rattle.measurement.proofs.is_near_nyquist.Goals as goal

pub returns-then-rate-gt32000 : goal.returns-then-rate-gt32000
returns-then-rate-gt32000 c = flag_off c.args.c _ (omega (arith, c.rate.ensures))

pub overflow_sub-energies : goal.overflow_sub-energies
overflow_sub-energies c = let s = sound c.args.c c.requires.0 in omega arith

pub returns : goal.returns
returns c = flag_on c.args.c _ _ _ _ (omega (arith, c.rate.ensures)) c.requires.1 c.upper.ensures c.exceeds.ensures
