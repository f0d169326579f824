-- `analysis_steps::copy` meets its contract: one place more, and in the end all of them. Assumes nothing.
use mathlib.Core.Path.{refl}
use native.Mathlib.Omega.{arith}
use lib.IntN.{pos}
use lib.ListN.{get_or}
use mir.Syntax.{w16}
use mir.ValLaws.{to_z-of_z}
use borrow.Author.Rules.{rules}
use Rattle.laws.proofs.Lists.{filled_none, filled_more, filled_is}
use Rattle.analysis_steps.proofs.copy.Goals as goal

pub loop-i-init : goal.loop-i-init
loop-i-init c = filled_none _ _

pub loop-i-preserved : goal.loop-i-preserved
loop-i-preserved c = let i = c.loop-i.i in
    let read = to_z-of_z w16 (get_or c.args.from.now i (pos 0)) (search rules) in
    filled_more _ (pos 0) c.loop-i.invariant (omega arith) read

pub returns : goal.returns
returns c = filled_is (pos 0) _ c.loop-i.invariant (omega arith) c.requires (λ k b. refl)
