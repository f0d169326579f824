-- `call_made::ask_on` meets its contract: the energies that it reads are what is asked of. Assumes nothing.
use mathlib.Core.Path.{ap, ◌∙◌}
use lib.ListN.{length}
use Rattle.laws.specs.Lists.{tab}
use Rattle.call_log.specs.Log.{float_of}
use Rattle.near_nyquist.specs.Sooner.{asked}
use Rattle.call_made.specs.Made.{asked_as, ask_on}
use Rattle.call_made.proofs.ask_on.Goals as goal

pub returns : goal.returns
unfolding ask_on
returns c = let f = c in
    let read = f.floats.ensures ∙ (λ j. tab (length f.args.energies.now) (float_of (f.rest.ensures j))) in
    record {
      value = c.asked_as.ensures ∙ ap asked_as (c.near_nyquist.ensures ∙ (λ j. asked (c.byte_at.ensures j) (read j)));
      energies_after = read;
    }
