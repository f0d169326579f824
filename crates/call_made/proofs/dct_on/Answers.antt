-- `call_made::dct_on` meets its contract: the values that it reads are what the DCT is lent. Assumes nothing.
use mathlib.Core.Path.{ap, ◌∙◌}
use lib.ListN.{length}
use Rattle.laws.specs.Lists.{tab}
use Rattle.frame_file.specs.File.{short}
use Rattle.call_log.specs.Log.{float_of}
use Rattle.dct_iv.specs.DctIv as dc
use Rattle.call_made.proofs.dct_on.Goals as goal

pub returns : goal.returns
returns c = let s = c in
    let f = c in
    let size = s.short.ensures ∙ ap short s.rest-2.ensures in
    let n = length f.args.values.now in
    c.dct_iv.ensures ∙ (λ j. dc.answer (size j) ((f.floats.ensures ∙ (λ i. tab n (float_of (f.rest.ensures i)))) j))
