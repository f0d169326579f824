-- `lmf_list::brought` meets its contract, by its test. Assumes nothing.
use Rattle.lmf_list.specs.Reading.{brought}
use Rattle.lmf_list.proofs.brought.Goals as goal

pub returns-then-failed : goal.returns-then-failed
unfolding brought
returns-then-failed c = simp c.if-failed.true

pub returns : goal.returns
unfolding brought
returns c = simp c.if-failed.false
