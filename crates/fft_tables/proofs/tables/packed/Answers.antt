-- `fft_tables::packed` meets its contract: each arm's table is the definition's part, by computation. Written by tools/tables. Assumes nothing.
use mathlib.Core.Path.{refl, ap, sym}
use Rattle.laws.specs.Lists.{tab}
use Rattle.kf_work.specs.Work.{plan}
use Rattle.twiddles.specs.Tables.{sizes, fft_re_bits, fft_im_bits}
use Rattle.twiddles.specs.Twiddles.{start, fft_re, fft_im}
use Rattle.fft_tables.specs.FftTables.{order, read, packed_re, packed_im, packed_table, packed_lent}
use Rattle.config.specs.Tables.{rows}
use Rattle.config.specs.Config.{row, half, fft_sizes}
use Rattle.config.proofs.Among.{outside_among}
use Rattle.twiddles.proofs.Sizes.{same_sizes}
use Rattle.fft_tables.proofs.tables.packed.Goals as goal

pub returns-in-10 : goal.returns-in-10
unfolding row rows half fft_sizes sizes fft_re_bits fft_im_bits start fft_re fft_im tab plan order read packed_re packed_im packed_table packed_lent
returns-in-10 c = ap packed_lent (sym c.in-10.is)

pub returns-in-20 : goal.returns-in-20
unfolding row rows half fft_sizes sizes fft_re_bits fft_im_bits start fft_re fft_im tab plan order read packed_re packed_im packed_table packed_lent
returns-in-20 c = ap packed_lent (sym c.in-20.is)

pub returns-in-30 : goal.returns-in-30
unfolding row rows half fft_sizes sizes fft_re_bits fft_im_bits start fft_re fft_im tab plan order read packed_re packed_im packed_table packed_lent
returns-in-30 c = ap packed_lent (sym c.in-30.is)

pub returns-in-40 : goal.returns-in-40
unfolding row rows half fft_sizes sizes fft_re_bits fft_im_bits start fft_re fft_im tab plan order read packed_re packed_im packed_table packed_lent
returns-in-40 c = ap packed_lent (sym c.in-40.is)

pub returns-in-60 : goal.returns-in-60
unfolding row rows half fft_sizes sizes fft_re_bits fft_im_bits start fft_re fft_im tab plan order read packed_re packed_im packed_table packed_lent
returns-in-60 c = ap packed_lent (sym c.in-60.is)

pub returns-in-80 : goal.returns-in-80
unfolding row rows half fft_sizes sizes fft_re_bits fft_im_bits start fft_re fft_im tab plan order read packed_re packed_im packed_table packed_lent
returns-in-80 c = ap packed_lent (sym c.in-80.is)

pub returns-in-90 : goal.returns-in-90
unfolding row rows half fft_sizes sizes fft_re_bits fft_im_bits start fft_re fft_im tab plan order read packed_re packed_im packed_table packed_lent
returns-in-90 c = ap packed_lent (sym c.in-90.is)

pub returns-in-120 : goal.returns-in-120
unfolding row rows half fft_sizes sizes fft_re_bits fft_im_bits start fft_re fft_im tab plan order read packed_re packed_im packed_table packed_lent
returns-in-120 c = ap packed_lent (sym c.in-120.is)

pub returns-in-160 : goal.returns-in-160
unfolding row rows half fft_sizes sizes fft_re_bits fft_im_bits start fft_re fft_im tab plan order read packed_re packed_im packed_table packed_lent
returns-in-160 c = ap packed_lent (sym c.in-160.is)

pub returns-in-180 : goal.returns-in-180
unfolding row rows half fft_sizes sizes fft_re_bits fft_im_bits start fft_re fft_im tab plan order read packed_re packed_im packed_table packed_lent
returns-in-180 c = ap packed_lent (sym c.in-180.is)

pub returns-in-240 : goal.returns-in-240
unfolding row rows half fft_sizes sizes fft_re_bits fft_im_bits start fft_re fft_im tab plan order read packed_re packed_im packed_table packed_lent
returns-in-240 c = ap packed_lent (sym c.in-240.is)

pub returns-in_default : goal.returns-in_default
unfolding row rows half fft_sizes sizes fft_re_bits fft_im_bits start fft_re fft_im tab plan order read packed_re packed_im packed_table packed_lent
returns-in_default c = rw (same_sizes c.args.n, outside_among sizes c.args.n Unit c.in_default.in_default-own.rest) refl
