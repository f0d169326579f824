-- `step` is safe: no configuration has more than 480 samples, lines or bands. Assumes nothing.
use Rattle.std.proofs.Common.{arith}
use Rattle.config.proofs.Sound.{sound}
use Rattle.against_double.proofs.step.Goals as goal

pub analyse-x-requires : goal.analyse-x-requires
analyse-x-requires c = (omega (arith, c.nf.ensures, (sound c.args.c c.requires).nf_le), omega (arith, c.nb.ensures, (sound c.args.c c.requires).nb_le))

pub play-y-requires : goal.play-y-requires
play-y-requires c = (omega (arith, c.ne.ensures, (sound c.args.c c.requires).ne_le, (sound c.args.c c.requires).nf_le), omega (arith, c.nf-2.ensures, (sound c.args.c c.requires).nf_le))
