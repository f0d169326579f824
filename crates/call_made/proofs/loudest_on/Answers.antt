-- `call_made::loudest_on` meets its contract: a loud band has its product, and what is quiet or refused nothing. Assumes nothing.
use mathlib.Core.Path.{◌∙◌}
use lib.ListN.{length}
use Rattle.laws.specs.Lists.{tab}
use Rattle.call_log.specs.Log.{float_of}
use Rattle.call_made.proofs.Answers.{loud-is, quiet-is, heard-is}
use Rattle.call_made.proofs.loudest_on.Goals as goal

pub returns-in_default : goal.returns-in_default
returns-in_default c = let r = c.loudest_band-heard in
    let read = c.floats.ensures ∙ (λ j. tab (length c.args.energies.now) (float_of (c.rest.ensures j))) in
    record {
      value = heard-is r.result (c.one_area.ensures ∙ quiet-is r.result c.told.ensures c.unwrap_or-found.ensures c.area-x.ensures.value c.in_default.is) r.ensures c.byte_at.ensures read;
      energies_after = read;
    }

pub returns : goal.returns
returns c = let r = c.loudest_band-heard in
    let read = c.floats.ensures ∙ (λ j. tab (length c.args.energies.now) (float_of (c.rest.ensures j))) in
    record {
      value = heard-is r.result (c.one_area-2.ensures ∙ loud-is r.result c.told-2.ensures c.unwrap_or-found.ensures c.area-x.ensures.value c.in-Loud.is) r.ensures c.byte_at.ensures read;
      energies_after = read;
    }
