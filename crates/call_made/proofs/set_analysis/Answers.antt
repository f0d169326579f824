-- `call_made::set_analysis` meets its contract: the places that are read into, and the rest zero. Assumes nothing.
use mathlib.Core.Path.{refl, ◌∙◌}
use Rattle.call_log.specs.Log.{sample_of}
use Rattle.call_made.specs.Made.{plain, called, set_analysis}
use Rattle.call_made.proofs.Lends.{read_into}
use Rattle.call_made.proofs.set_analysis.Goals as goal

pub returns : goal.returns
unfolding set_analysis
returns c = let s = c in
    let all = read_into sample_of (record { value = refl; places = refl }) s.rest-input.ensures s.count_places-k.ensures c.samples.ensures in
    c.called_as.ensures ∙ (λ j. called (record { config = c.byte_at-config.ensures j; samples = all j }) (plain 0))
