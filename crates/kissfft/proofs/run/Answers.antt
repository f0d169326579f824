-- `kissfft::run` meets its contract: the tables that are lent are those of the size. Assumes nothing.
use mathlib.Core.Path.{◌∙◌}
use mathlib.Core.Bool.{false}
use native.Mathlib.Omega.{arith}
use lib.ListN.{length}
use Rattle.fft_tables.proofs.Packs.{fft_halves, plan_at, some_size}
use Rattle.kissfft.proofs.Judged.{room_fits}
use Rattle.kissfft.proofs.Directed.{directed, forward}
use Rattle.kissfft.proofs.run.Goals as goal

pub overflow_sub-n : goal.overflow_sub-n
overflow_sub-n c = some_size _ c.requires.0

pub split_at-requires : goal.split_at-requires
split_at-requires c = omega (arith, (fft_halves _ c.requires.0 _ c.packed.ensures).fits)

pub inverted-requires : goal.inverted-requires
inverted-requires c =
    let s = c.requires.0 in
    let h = fft_halves _ s _ c.packed.ensures in
    (c.requires, c.split_at.ensures.front ∙ h.re_is, c.split_at.ensures.back ∙ h.im_is, omega (arith, h.fits), omega arith)

pub inverted-requires-else-n-le40 : goal.inverted-requires-else-n-le40
inverted-requires-else-n-le40 c =
    let s = c.requires.0 in
    let h = fft_halves _ s _ c.packed.ensures in
    let im = c.split_at.ensures.back ∙ h.im_is in
    (c.requires, c.split_at.ensures.front ∙ h.re_is, im, room_fits _ s c.split_at.result.1.now im, omega arith)

pub transform-requires : goal.transform-requires
transform-requires c =
    let n = length c.args.x.now in
    let s = c.requires.0 in
    let h = (fft_halves n s _ c.packed.ensures).fits in
    let some = some_size n s in
    (c.requires, omega (arith, some), omega (arith, some, h), c.plan.ensures ∙ plan_at n s)

pub returns-then-not-inverse : goal.returns-then-not-inverse
returns-then-not-inverse c =
    let n = length c.args.x.now in
    let h = fft_halves n c.requires.0 _ c.packed.ensures in
    rw c.if-not-inverse.true (directed false c.args.x.now c.args.y.now _ _ _ _ c.requires.0 (c.split_at.ensures.front ∙ h.re_is) (c.split_at.ensures.back ∙ h.im_is ∙ forward n) c.transform.ensures)

pub returns-then-n-le40 : goal.returns-then-n-le40
returns-then-n-le40 c = rw c.if-not-inverse.false c.inverted.ensures

pub returns-else-n-le40 : goal.returns-else-n-le40
returns-else-n-le40 c = rw c.if-not-inverse.false c.inverted-else-n-le40.ensures
