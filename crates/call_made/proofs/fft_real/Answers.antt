-- `call_made::fft_real` meets its contract: as many imaginary parts are read as the count asks for. Assumes nothing.
use mathlib.Core.Path.{◌∙◌}
use Rattle.laws.specs.Lists.{tab}
use Rattle.call_log.specs.Log.{float_of}
use Rattle.call_made.specs.Made.{fft_on, past_floats}
use Rattle.call_made.proofs.Lends.{lends}
use Rattle.call_made.proofs.fft_real.Goals as goal

pub returns : goal.returns
returns c = let s = c in
    let r = s.read_floats-imag.ensures in
    let l = lends s.area-im.ensures r.0 s.count_places-k.ensures in
    record {
      value = c.fft_imag.ensures.value ∙ (λ j. fft_on s.args.b.now (r.1 j) (tab (l.long j) (float_of (r.0 j))) (past_floats (r.0 j)));
      re_after = r.1;
    }
