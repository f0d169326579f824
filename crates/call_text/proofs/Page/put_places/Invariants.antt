-- `call_text::Page::put_places` meets its contract. The invariant: the places passed are written. Assumes nothing.
use mathlib.Core.List.{◌++◌}
use lib.ListN.{take}
use Rattle.plain_text.specs.Text.{space}
use Rattle.call_text.specs.Pages.{Writes}
use Rattle.call_text.specs.Lines.{each}
use Rattle.call_text.proofs.Page.put_places.Given as goal

abbrev pub invariant-loop-place : goal.invariant-loop-place
invariant-loop-place g l = Writes l.initial.self l.self (each (λ y. space ++ g.T.Spelled.text y) (take l.place-index l.places))
