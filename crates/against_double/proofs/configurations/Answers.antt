-- `configurations` is safe and ends. The measure is the count of the numbers that are left; nothing has to hold from one to the next. Assumes nothing.
use Rattle.std.proofs.Common.{T, sym, ◌∙◌, subst, arith}
use Rattle.against_double.proofs.configurations.Goals as goal

pub loop-c-init : goal.loop-c-init
loop-c-init c = tt

pub configuration-requires : goal.configuration-requires
configuration-requires c = subst T (sym (sym c.valid.ensures ∙ c.if-valid.true)) tt

pub overflow_step-c : goal.overflow_step-c
overflow_step-c c = omega arith

pub loop-c-smaller : goal.loop-c-smaller
loop-c-smaller c = omega arith

pub loop-c-preserved : goal.loop-c-preserved
loop-c-preserved c = tt

pub returns : goal.returns
returns c = tt
