-- `complex::put` meets its contract: the two stores are one `upd` of the places. Assumes nothing.
use mathlib.Core.Path.{fun_ext}
use Rattle.complex.proofs.Places.{put-at}
use Rattle.complex.proofs.put.Goals as goal

pub returns : goal.returns
returns c = fun_ext (put-at c.args.re.now c.args.im.now c.args.k c.args.c c.requires.0 c.requires.1)
