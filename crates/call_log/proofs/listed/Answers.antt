-- `call_log::listed` meets its contract. The product fits, since a width is at most 4 and a count 16 bits. Assumes nothing.
use mathlib.Core.Bool.{Bool}
use lib.Dec.{leb}
use Rattle.frame_file.specs.File.{short}
use Rattle.call_log.specs.Log.{pick, within}
use mathlib.Core.Path.{sym, ap, ◌∙◌}
use Prim.Native.Nat.{ℕ, ◌+◌, ◌*◌}
use native.Mathlib.Nat.{mul-le-mul_right}
use native.Mathlib.Omega.{arith}
use borrow.Author.Tests.{le-leb, lt-leb}
use Rattle.call_log.proofs.listed.Goals as goal

pub overflow_mul-width : goal.overflow_mul-width
overflow_mul-width c = omega (arith, c.from-n.ensures, mul-le-mul_right c.from-n.result c.requires)

pub overflow_add-width : goal.overflow_add-width
overflow_add-width c = omega (arith, c.from-n.ensures, mul-le-mul_right c.from-n.result c.requires)

pub returns-then-n-most : goal.returns-then-n-most
returns-then-n-most c = let a = c.args in
    let b = a.b.now in
    let e = c.from-n.ensures ∙ c.short.ensures in
    c.within.ensures ∙ ap (λ (n : ℕ). within b (2 + a.width * n)) e ∙ sym (ap (λ (t : Bool). pick t (within b (2 + a.width * short b))) (ap (λ (n : ℕ). leb n a.most) (sym e) ∙ le-leb _ _ c.if-n-most.true))

pub returns-else-n-most : goal.returns-else-n-most
returns-else-n-most c = let a = c.args in
    let b = a.b.now in
    let e = c.from-n.ensures ∙ c.short.ensures in
    sym (ap (λ (t : Bool). pick t (within b (2 + a.width * short b))) (ap (λ (n : ℕ). leb n a.most) (sym e) ∙ lt-leb _ _ c.if-n-most.false))
