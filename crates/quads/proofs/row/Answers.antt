-- `quads::row` meets its contract: four neighbouring stores to each list. Assumes nothing.
use mathlib.Core.Path.{◌∙◌, ap₂}
use mathlib.Core.List.{List}
use lib.Ieee.{Float}
use Rattle.complex.specs.Complex.{at}
use Rattle.quads.proofs.Rows.{lanes}
use Rattle.quads.proofs.row.Goals as goal

pub returns : goal.returns
returns c = let a = c.args in
    ap₂ (λ (x y : List Float). at x y) c.lane.ensures c.lane-2.ensures ∙ lanes a.re.now a.im.now a.k a.a a.b a.c a.d c.requires.0 c.requires.1
