-- `listing::open` meets its contract: a good header's first line, or the last line alone. Assumes nothing.
use mathlib.Core.Path.{sym, ap, ap₂, ◌∙◌}
use Prim.Native.Nat.{ℕ}
use Rattle.listing.specs.declared.line.Text.{Text}
use Rattle.listing.specs.declared.Lister.{Lister}
use Rattle.listing.specs.declared.Stepped.{Stepped}
use Rattle.listing.specs.Text.{refused_line}
use Rattle.listing.specs.Steps.{text, opened, opening}
use Rattle.listing.proofs.open.Goals as goal

abbrev made : ℕ → Text → Lister → Stepped
made n t l = record { text = t; used = n; lister = l }

pub returns-in-Ok : goal.returns-in-Ok
unfolding opening
returns-in-Ok c = ap₂ (made 6) c.first_line.ensures c.start.ensures ∙ ap opened (sym c.in-Ok.is ∙ c.read_header.ensures)

pub returns-in-Err : goal.returns-in-Err
unfolding opening
returns-in-Err c =
    c.last.ensures
    ∙ ap₂ (made 0) (c.refused_line.ensures ∙ ap (λ (n : ℕ). text (refused_line n)) c.number.ensures) c.start-in-Err.ensures
    ∙ ap opened (sym c.in-Err.is ∙ c.read_header.ensures)
