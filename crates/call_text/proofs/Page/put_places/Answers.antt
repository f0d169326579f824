-- `call_text::Page::put_places` meets its contract: the invariant goes on place by place. Assumes nothing.
use mathlib.Core.Path.{subst}
use mathlib.Core.List.{◌++◌}
use native.Mathlib.Omega.{arith}
use lib.ListN.{get_or}
use Rattle.call_text.specs.Pages.{Writes}
use Rattle.plain_text.specs.Text.{space, newline}
use Rattle.call_text.specs.Lines.{each, spaced}
use Rattle.call_text.proofs.Pages.{nothing, two, again, done}
use Rattle.call_text.proofs.Page.put_places.Goals as goal

pub loop-place-init : goal.loop-place-init
unfolding each
loop-place-init g c = nothing _

pub loop-place-preserved : goal.loop-place-preserved
loop-place-preserved g c =
    again (λ y. space ++ g.T.Spelled.text y) c.args.places.now _ c.loop-place.invariant c.place-item.result (omega arith)
    (two space (g.T.Spelled.text (get_or c.args.places.now c.loop-place.place-index c.place-item.result)) c.put.ensures (subst (λ v. Writes c.put.new.self c.put_on.new.page (g.T.Spelled.text v)) c.place-item.is c.put_on.ensures))

pub returns : goal.returns
returns g c = two (spaced g.T.Spelled.text c.args.places.now) newline (done (λ y. space ++ g.T.Spelled.text y) c.args.places.now _ c.loop-place.invariant (omega arith)) c.put-2.ensures
