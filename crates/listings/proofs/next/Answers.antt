-- `listings::next` is safe: no frame is longer than its array. Assumes nothing.
use mathlib.Core.Path.{sym}
use native.Mathlib.Omega.{arith}
use lib.Seq.{length-take-le}
use Rattle.listing.proofs.Found.{nf_most}
use Rattle.listings.proofs.next.Goals as goal

pub slice_bounds-buf-end : goal.slice_bounds-buf-end
slice_bounds-buf-end c = omega (arith, c.wanted-want.ensures, nf_most c.args.lister.channel.config)

pub slice_bounds-step-end : goal.slice_bounds-step-end
slice_bounds-step-end c = sym (length-take-le _ _ (omega (arith, c.wanted-want.ensures, nf_most c.args.lister.channel.config)))
