-- `call_text::Page::put_bytes` meets its contract: the invariant goes on byte by byte. Assumes nothing.
use mathlib.Core.Path.{subst}
use native.Mathlib.Omega.{arith}
use Rattle.call_text.specs.Lines.{each}
use Rattle.call_text.specs.Pages.{Writes}
use Rattle.call_text.proofs.Pages.{nothing, again, done, byte, each-byte}
use Rattle.call_text.proofs.Page.put_bytes.Goals as goal

pub loop-b-init : goal.loop-b-init
unfolding each
loop-b-init c = nothing _

pub loop-b-preserved : goal.loop-b-preserved
loop-b-preserved c = again byte c.args.bytes.now _ c.loop-b.invariant 0 (omega arith) c.put.ensures

pub returns : goal.returns
returns c = subst (Writes c.args.self.now c.loop-b.self) (each-byte c.args.bytes.now) (done byte c.args.bytes.now _ c.loop-b.invariant (omega arith))
