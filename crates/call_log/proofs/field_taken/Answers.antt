-- `call_log::field_taken` meets its contract: at each field the definition computes to what the callee answers. Assumes nothing.
use mathlib.Core.Path.{sym, ap, ◌∙◌}
use mathlib.Core.Bool.{Bool}
use Prim.Native.Nat.{ℕ}
use lib.Dec.{leb}
use borrow.Author.Tests.{le-leb, lt-leb}
use Rattle.call_log.specs.Log.{pick, within, field_taken}
use Rattle.call_log.proofs.field_taken.Goals as goal

pub returns-in-Nothing : goal.returns-in-Nothing
unfolding field_taken
returns-in-Nothing c = sym (ap (field_taken c.args.b.now) c.in-Nothing.is)

pub returns-in-Byte : goal.returns-in-Byte
unfolding field_taken
returns-in-Byte c = c.within.ensures ∙ sym (ap (field_taken c.args.b.now) c.in-Byte.is)

pub returns-then-byte_at-le1 : goal.returns-then-byte_at-le1
unfolding field_taken
returns-then-byte_at-le1 c = let b = c.args.b.now in
    let small = ap (λ (n : ℕ). leb n 1) (sym c.byte_at.ensures) ∙ le-leb _ _ c.if-byte_at-le1.true in
    c.within-then-byte_at-le1.ensures ∙ sym (ap (field_taken b) c.in-Flag.is ∙ ap (λ (t : Bool). pick t (within b 1)) small)

pub returns-else-byte_at-le1 : goal.returns-else-byte_at-le1
unfolding field_taken
returns-else-byte_at-le1 c = let b = c.args.b.now in
    let large = ap (λ (n : ℕ). leb n 1) (sym c.byte_at.ensures) ∙ lt-leb _ _ c.if-byte_at-le1.false in
    sym (ap (field_taken b) c.in-Flag.is ∙ ap (λ (t : Bool). pick t (within b 1)) large)

pub returns-in-Number : goal.returns-in-Number
unfolding field_taken
returns-in-Number c = c.within-in-Number.ensures ∙ sym (ap (field_taken c.args.b.now) c.in-Number.is)

pub returns-in-Length : goal.returns-in-Length
unfolding field_taken
returns-in-Length c = c.listed.ensures ∙ sym (ap (field_taken c.args.b.now) c.in-Length.is)

pub returns-in-Samples : goal.returns-in-Samples
unfolding field_taken
returns-in-Samples c = c.listed-in-Samples.ensures ∙ sym (ap (field_taken c.args.b.now) c.in-Samples.is)

pub returns-in-Floats : goal.returns-in-Floats
unfolding field_taken
returns-in-Floats c = c.listed-in-Floats.ensures ∙ sym (ap (field_taken c.args.b.now) c.in-Floats.is)

pub returns-in-Unknown : goal.returns-in-Unknown
unfolding field_taken
returns-in-Unknown c = sym (ap (field_taken c.args.b.now) c.in-Unknown.is)
