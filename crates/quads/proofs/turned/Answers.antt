-- `quads::turned` meets its contract. The loop's invariant: the first q places are those of the twiddled column. Assumes nothing.
use mathlib.Core.Path.{◌∙◌, ap}
use Prim.Native.Nat.{ℕ}
use Rattle.laws.specs.Lists.{tab}
use Rattle.complex.specs.declared.Complex.{Complex}
use Rattle.quads.proofs.Read.{read_first, read_more, read_all}
use Rattle.quads.proofs.turned.Goals as goal

pub loop-q-init : goal.loop-q-init
loop-q-init g c = read_first g.met.K.Radix.few.0 c.get-column.ensures

pub loop-q-preserved : goal.loop-q-preserved
loop-q-preserved g c = read_more c.loop-q.invariant c.loop-q-test.true c.twiddled.ensures

pub returns : goal.returns
returns g c = c.turned.ensures ∙ ap (λ (v : ℕ → Complex). tab g.row.R (λ q. v (g.K.Radix.order c.args.radix q))) (read_all (g.met.K.Radix.sees c.args.radix) c.loop-q.invariant c.loop-q-test.false)
