-- `call_text::Page::put_energy` meets its contract: a line, or nothing. Assumes nothing.
use mathlib.Core.Path.{◌≡◌, refl, sym, ◌∙◌, subst}
use mathlib.Core.Bool.{true, false}
use mathlib.Core.List.{List, [], ◌∷◌}
use native.Mathlib.Omega.{arith}
use lib.Dec.{eqb}
use lib.Ieee.{Float}
use lib.ListN.{length}
use borrow.Author.Tests.{eqb-true, eqb-false}
use Rattle.call_text.specs.declared.Page as declared
use Rattle.call_text.specs.Lines.{area_line, energy, energy_line}
use Rattle.call_text.specs.Pages.{Writes}
use Rattle.call_text.proofs.Pages.{nothing}
use Rattle.call_text.proofs.Page.put_energy.Goals as goal

none : (p : declared.Page) (x : List Float) → eqb (length x) 0 ≡ true → Writes p p (energy_line x)
none p [] e = nothing p
none p (y ∷ x) e = absurd (let h = eqb-true _ _ e in omega arith)

some : (x : List Float) → eqb (length x) 0 ≡ false → area_line energy x ≡ energy_line x
some [] h = absurd (eqb-false 0 0 h refl)
some (y ∷ x) h = refl

pub returns-then-not-is_empty : goal.returns-then-not-is_empty
unfolding area_line
returns-then-not-is_empty c = subst (Writes c.args.self.now c.put_line.new.self) (some c.args.x.now (sym c.is_empty.ensures ∙ c.if-not-is_empty.true)) c.put_line.ensures

pub returns-else-not-is_empty : goal.returns-else-not-is_empty
returns-else-not-is_empty c = none c.args.self.now c.args.x.now (sym c.is_empty.ensures ∙ c.if-not-is_empty.false)
