-- `call_text::I16Spelled::put_on` meets its contract: a minus where it is below zero, and the size. Assumes nothing.
use mathlib.Core.Path.{◌≡◌, sym, ap, ◌∙◌, subst}
use Prim.Native.Nat.{ℕ}
use mir.Syntax.{w16}
use mir.ValLaws.{to_z-of_z}
use mathlib.Core.Bool.{true, false}
use mathlib.Core.List.{[], ◌∷◌}
use lib.IntN.{ℤ, pos, nat_abs}
use Rattle.plain_text.specs.Text.{decimal}
use Rattle.call_text.proofs.I16Spelled.put_on.Goals.{then-self-lt0, else-self-lt0}
use lib.Signed.{lt_z}
use Rattle.call_text.specs.declared.Page as declared
use Rattle.call_text.specs.Lines.{sign, sample}
use Rattle.call_text.specs.Pages.{Writes}
use Rattle.call_text.proofs.Values.{read_test, sign_below, sign-none}
use Rattle.call_text.proofs.Pages.{nothing, two}
use Rattle.call_text.proofs.I16Spelled.put_on.Goals as goal

below : {p q : declared.Page} (x : ℤ) → lt_z x (pos 0) ≡ true → Writes p q (0x2d ∷ []) → Writes p q (sign x)
below {p} {q} x h e = subst (Writes p q) (sign_below x h) e

none : (p : declared.Page) (x : ℤ) → lt_z x (pos 0) ≡ false → Writes p p (sign x)
none p x h = subst (Writes p p) (sign-none x h) (nothing p)

pub returns : goal.returns
unfolding sample
returns c = let x = c.args.self in
    let front : Writes c.args.page.now c.if-self-lt0.page (sign x) =
    elim c.if-self-lt0.branch [
      | then-self-lt0 w ↦ subst (λ (q : declared.Page). Writes c.args.page.now q (sign x)) (sym w.page-is) (below x (read_test x c.ranges.self w.if-self-lt0.true) w.put.ensures)
      | else-self-lt0 w ↦ subst (λ (q : declared.Page). Writes c.args.page.now q (sign x)) (sym w.page-is) (none _ x (read_test x c.ranges.self w.if-self-lt0.false))
    ] in
    two (sign x) (decimal (nat_abs x)) front (subst (λ (n : ℕ). Writes c.if-self-lt0.page c.put_decimal.new.self (decimal n)) (c.unsigned_abs.ensures.value ∙ ap nat_abs (to_z-of_z w16 x c.ranges.self)) c.put_decimal.ensures)
