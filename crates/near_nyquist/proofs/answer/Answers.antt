-- `near_nyquist::answer` meets its contract: above 32 kHz, where it stops, and where it never does. Assumes nothing.
use native.Mathlib.Omega.{arith}
use Rattle.config.proofs.Sound.{sound}
use Rattle.near_nyquist.proofs.Answers.{at-48, stopped, never}
use Rattle.near_nyquist.proofs.answer.Goals as goal

pub returns-then-rate-gt32000 : goal.returns-then-rate-gt32000
returns-then-rate-gt32000 c = let a = c.args in at-48 a.c a.energies.now (omega (arith, c.rate.ensures))

pub overflow_sub-bands : goal.overflow_sub-bands
overflow_sub-bands c = let s = c in
    omega (arith, s.requires.1, c.upper.ensures, (sound s.args.c s.requires.0).upper_le)

pub returns-then-answer : goal.returns-then-answer
returns-then-answer c = let s = c in
    let a = s.args in
    stopped a.c a.energies.now (omega (arith, c.rate.ensures)) s.requires.1 c.upper.ensures c.stop-band.ensures c.if-answer.true

pub returns-else-answer : goal.returns-else-answer
returns-else-answer c = let s = c in
    let a = s.args in
    never a.c a.energies.now (omega (arith, c.rate.ensures)) s.requires.1 c.upper.ensures c.stop-band.ensures c.if-answer.false
