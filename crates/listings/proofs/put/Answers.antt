-- `listings::put` is safe: what it writes is a part of the text's array. Assumes nothing.
use mathlib.Core.Path.{◌≡◌, sym}
use native.Mathlib.Omega.{arith}
use lib.ListN.{length}
use lib.Seq.{length-take-le}
use borrow.Author.Rules.{rules}
use Rattle.listings.proofs.put.Goals as goal

pub slice_bounds-bytes-end : goal.slice_bounds-bytes-end
slice_bounds-bytes-end c = let whole : length c.args.text.bytes ≡ 64 = search rules in
    omega (arith, c.size-n.ensures)

pub slice_bounds-write-end : goal.slice_bounds-write-end
slice_bounds-write-end c = sym (length-take-le _ _ (let whole : length c.args.text.bytes ≡ 64 = search rules in omega (arith, c.size-n.ensures)))
