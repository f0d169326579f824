-- `lmf_list::read_more` meets its contract: what stood before the part that is lent to the read stays, and the bytes counted lie in it. Assumes nothing.
use mathlib.Core.Path.{◌≡◌, ap, ◌∙◌}
use mathlib.Core.Bool.{true, false}
use Prim.Native.Nat.{ℕ, ◌+◌, ◌-◌}
use Rattle.lmf_list.specs.Reading.{brought}
use native.Mathlib.Omega.{arith}
use lib.ListN.{length}
use borrow.Rule.Slice.PartMut.{take_put}
use borrow.Author.Rules.{rules}
use Rattle.lmf_list.proofs.Reading.{came}
use Rattle.lmf_list.proofs.read_more.Goals as goal

pub returns-in-Ok : goal.returns-in-Ok
returns-in-Ok c = let s = c.args in
    let buf = s.buf.now in
    came _ _ s.at c.in-Ok.n _ false c.brought.ensures (search rules) (take_put s.at (length buf - s.at) buf c.read.new.buf c.requires)

pub returns-in-Err : goal.returns-in-Err
returns-in-Err c = let s = c.args in
    let buf = s.buf.now in
    let here : s.at ≡ s.at + 0 = omega arith in
    came _ _ s.at 0 _ true (c.brought-in-Err.ensures ∙ ap (λ (n : ℕ). brought s.at n true) here) (search rules) (take_put s.at (length buf - s.at) buf c.read.new.buf c.requires)
