-- What grows how much, as promised. Assumes nothing.
use Rattle.bounds.specs.Growth.{Growth}
use Rattle.bounds.proofs.Columns.{by2, by3, by4, by5}
use Rattle.bounds.proofs.Work.{column-bound, transform_bound}
use Rattle.bounds.proofs.Tables.{fft_small, dct_small, tame_all}
use Rattle.bounds.proofs.Dct.{dct-bound}

pub grows : Growth
grows =
    record {
      fft_small = fft_small;
      dct_small = dct_small;
      twos = by2;
      threes = by3;
      fours = by4;
      fives = by5;
      columns = column-bound;
      works = transform_bound;
      dcts = dct-bound;
      tames = tame_all;
    }
