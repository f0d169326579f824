-- `call_made::fft` meets its contract: as many real parts are read as the count asks for. Assumes nothing.
use mathlib.Core.Path.{◌∙◌}
use Rattle.laws.specs.Lists.{tab}
use Rattle.call_log.specs.Log.{float_of}
use Rattle.call_made.specs.Made.{fft_on, floats, past_floats}
use Rattle.call_made.proofs.Lends.{lends}
use Rattle.call_made.proofs.fft.Goals as goal

pub returns : goal.returns
returns c = let s = c in
    let e = s.rest-parts.ensures in
    let l = lends s.area-re.ensures e s.count_places-k.ensures in
    c.fft_real.ensures.value ∙ (λ j. fft_on s.args.b.now (tab (l.long j) (float_of (e j))) (floats (past_floats (e j))) (past_floats (past_floats (e j))))
