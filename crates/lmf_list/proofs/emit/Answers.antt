-- `lmf_list::emit` meets its contract: the line is put where there is room for it. Assumes nothing.
use native.Mathlib.Omega.{arith}
use Rattle.lmf_list.proofs.Writing.{room_enough, put}
use Rattle.lmf_list.proofs.emit.Goals as goal

pub copy_to-len-requires : goal.copy_to-len-requires
copy_to-len-requires c = omega (arith, c.room-ready.ensures.len, room_enough _ _ c.requires.0 c.requires.1)

pub returns : goal.returns
returns c =
    let r = c.room-ready.ensures in
    let e = c.copy_to-len.ensures in
    put _ _ c.args.text c.requires.0 c.requires.1 r e.0 e.1 c.copy_to-len.auto.out
