-- `lmf_list::next` meets its contract: no frame is longer than 960 bytes, and what was read stands at the front of the room. Assumes nothing.
use mathlib.Core.Path.{◌≡◌, sym, ◌∙◌}
use native.Mathlib.Omega.{arith}
use lib.ListN.{length}
use lib.Seq.{length-take-le}
use Rattle.listing.proofs.Found.{nf_most}
use Rattle.lmf_list.proofs.Reading.{next-step}
use Rattle.lmf_list.proofs.next.Goals as goal

pub slice_bounds-step-end : goal.slice_bounds-step-end
slice_bounds-step-end c = omega (arith, c.wanted-want.ensures, nf_most c.args.lister.channel.config, c.requires)

pub slice_bounds-step-end-2 : goal.slice_bounds-step-end-2
slice_bounds-step-end-2 c = sym (length-take-le _ _ (omega (arith, c.wanted-want.ensures, nf_most c.args.lister.channel.config, c.requires)))

pub returns : goal.returns
returns c = let want = c.wanted-want.result in
    let l = length-take-le want c.args.room.now (omega (arith, c.wanted-want.ensures, nf_most c.args.lister.channel.config, c.requires)) in
    let back : length c.step.new.frame ≡ want = omega (arith, c.step.auto.frame, l) in
    next-step _ _ _ _ (back ∙ c.wanted-want.ensures) c.step.ensures
