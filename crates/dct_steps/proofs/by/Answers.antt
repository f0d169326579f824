-- `dct_steps::by` meets its contract: the tables that are lent are those of the size, and halved give the parts. Assumes nothing.
use mathlib.Core.Path.{refl, sym, subst, ◌∙◌}
use Prim.Native.Nat.{ℕ}
use native.Mathlib.Omega.{arith}
use lib.Dec.{T}
use lib.ListN.{length-replicate}
use Rattle.laws.specs.Numbers.{zero32}
use Rattle.config.specs.Config.{among, fft_sizes}
use Rattle.twiddles.proofs.Sizes.{dct_halves}
use Rattle.fft_tables.proofs.Packs.{fft_halves, some_size}
use Rattle.dct_steps.proofs.Arms.{is_dct}
use Rattle.dct_steps.proofs.by.Goals as goal

pub split_at-requires : goal.split_at-requires
split_at-requires g c = omega (arith, (dct_halves g.row.C c.requires.0 _ c.dct.ensures).fits)

pub overflow_sub-split_at : goal.overflow_sub-split_at
overflow_sub-split_at g c = some_size g.row.C c.requires.0

pub split_at-requires-2 : goal.split_at-requires-2
split_at-requires-2 g c = omega (arith, (fft_halves g.row.C c.requires.0 _ c.packed.ensures).fits)

pub twiddle_in-requires : goal.twiddle_in-requires
twiddle_in-requires g c =
    let n = g.row.C in
    let l = length-replicate n zero32 in
    let h = (dct_halves n c.requires.0 _ c.dct.ensures).fits in
    (omega (arith, l), omega (arith, l), omega (arith, l, h), refl)

pub transform_of-requires : goal.transform_of-requires
transform_of-requires g c =
    let n = g.row.C in
    let l = length-replicate n zero32 in
    let h = (fft_halves n c.requires.0 _ c.packed.ensures).fits in
    let x = c.twiddle_in.auto.xr in
    let some = some_size n c.requires.0 in (
      (subst (λ (k : ℕ). T (among fft_sizes k)) (sym (x ∙ l)) c.requires.0, c.twiddle_in.auto.xi ∙ sym x, sym x, sym x),
      x ∙ l,
      omega (arith, some),
      omega (arith, some, h),
    )

pub twiddle_out-requires : goal.twiddle_out-requires
twiddle_out-requires g c =
    let l = length-replicate g.row.C zero32 in
    let h = (dct_halves g.row.C c.requires.0 _ c.dct.ensures).fits in
    let a = c.transform_of.auto.re in
    (omega (arith, a, l), omega (arith, a, l), omega (arith, a, l, h), c.transform_of.auto.im ∙ sym a)

pub returns : goal.returns
returns g c =
    let n = g.row.C in
    let s = c.requires.0 in
    let d = dct_halves n s _ c.dct.ensures in
    let t = fft_halves n s _ c.packed.ensures in
    let l = length-replicate n zero32 in
    let at = c.split_at.ensures in
    let ut = c.split_at-2.ensures in
    is_dct n s _ _ _ _ _ (at.front ∙ d.re_is) (at.back ∙ d.im_is) (ut.front ∙ t.re_is) (ut.back ∙ t.im_is) c.requires.1 l c.twiddle_in.ensures (c.twiddle_in.auto.xr ∙ l)
    c.transform_of.ensures c.twiddle_out.ensures
