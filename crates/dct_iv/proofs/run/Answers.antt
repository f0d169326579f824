-- `dct_iv::run` meets its contract: the last arm is of the longest. Assumes nothing.
use Rattle.config.specs.Tables.{rows}
use Rattle.config.specs.Config.{row, half, fft_sizes}
use Rattle.config.proofs.Longest.{is_longest}
use Rattle.dct_iv.proofs.run.Goals as goal

pub by-requires-in_default : goal.by-requires-in_default
unfolding fft_sizes half row rows
by-requires-in_default c = (tt, is_longest _ c.requires c.in_default.in_default-own.rest)
