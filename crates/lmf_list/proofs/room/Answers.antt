-- `lmf_list::room` meets its contract, by its test. Assumes nothing.
use borrow.Author.Tests.{lt-ltb, le-ltb}
use Rattle.lmf_list.proofs.Writing.{made_room, had_room}
use Rattle.lmf_list.proofs.room.Goals as goal

pub returns-then-out-n-lt64 : goal.returns-then-out-n-lt64
returns-then-out-n-lt64 c = made_room _ _ c.flush-ok.result (lt-ltb _ _ c.if-out-n-lt64.true)

pub returns : goal.returns
returns c = had_room _ _ (le-ltb _ _ c.if-out-n-lt64.false)
