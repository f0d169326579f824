-- `kissfft::inverted` meets its contract: the negated imaginary parts are the inverse's. Assumes nothing.
use mathlib.Core.Path.{ap, ◌∙◌}
use mathlib.Core.Bool.{true}
use mathlib.Core.List.{map}
use native.Mathlib.Omega.{arith}
use lib.Ieee.{neg}
use Rattle.std.proofs.lemmas.List.{length-take-le}
use lib.ListN.{length, length-replicate}
use Rattle.laws.specs.Numbers.{zero32}
use Rattle.laws.proofs.Lists.{length-map}
use Rattle.fft_tables.specs.FftTables.{packed_im_of}
use Rattle.fft_tables.proofs.Packs.{plan_at, some_size, re-length, im-length}
use Rattle.kissfft.proofs.Directed.{directed}
use Rattle.kissfft.proofs.inverted.Goals as goal

pub whole_as_front-ui : goal.whole_as_front-ui
whole_as_front-ui g c = (c.requires.3, omega (arith, c.requires.4))

pub copy_from_slice-requires : goal.copy_from_slice-requires
copy_from_slice-requires g c = length-take-le (length c.args.ti.now) _ (omega (arith, c.requires.3, length-replicate g.row.N zero32))

pub transform-requires : goal.transform-requires
transform-requires g c =
    let n = length c.args.x.now in
    let s = c.requires.0.0 in
    let some = some_size n s in
    (c.requires.0, omega (arith, ap length c.requires.1, re-length n s, some), omega (arith, ap length c.negate.ensures, length-map neg c.copy_from_slice.new.self, ap length c.copy_from_slice.ensures.after, ap length c.requires.2, im-length n s, some), c.plan.ensures ∙ plan_at n s)

pub returns : goal.returns
unfolding packed_im_of
returns g c = directed true c.args.x.now c.args.y.now _ _ _ _ c.requires.0.0 c.requires.1 (c.negate.ensures ∙ ap (map neg) (c.copy_from_slice.ensures.after ∙ c.requires.2)) c.transform.ensures
