-- `kissfft::judge` meets its contract: each return is the definition's verdict. Assumes nothing.
use mathlib.Core.Path.{sym, ap, ◌∙◌}
use Rattle.refusals.specs.Refusals.{bad_value}
use Rattle.refusals.proofs.Verdicts.{by_first}
use Rattle.kissfft.proofs.Judged.{one_is_not, says_2, says_3, says_4, says-rest}
use Rattle.kissfft.proofs.judge.Goals as goal

pub returns-then-not-is_fft_size : goal.returns-then-not-is_fft_size
returns-then-not-is_fft_size c = let a = c.args in
    says_2 a.size a.x.now a.y.now a.c a.d (sym c.is_fft_size.ensures ∙ c.if-not-is_fft_size.true)

pub returns-then-x-size : goal.returns-then-x-size
returns-then-x-size c = let a = c.args in
    says_3 a.size a.x.now a.y.now a.c a.d (sym c.is_fft_size.ensures ∙ c.if-not-is_fft_size.false) (one_is_not _ _ _ c.then-x-size.either)

pub returns-then-c-size : goal.returns-then-c-size
returns-then-c-size c = let a = c.args in
    says_4 a.size a.x.now a.y.now a.c a.d (sym c.is_fft_size.ensures ∙ c.if-not-is_fft_size.false) c.if-x-size.false c.if-y-size.false (one_is_not _ _ _ c.then-c-size.either)

pub returns-in-Some : goal.returns-in-Some
returns-in-Some c = let a = c.args in
    ap (by_first bad_value) (sym c.in-Some.is ∙ c.first_bad.ensures)
    ∙ says-rest a.size a.x.now a.y.now a.c a.d (sym c.is_fft_size.ensures ∙ c.if-not-is_fft_size.false) c.if-x-size.false c.if-y-size.false c.if-c-size.false c.if-d-size.false

pub returns-in-None : goal.returns-in-None
returns-in-None c = let a = c.args in
    ap (by_first bad_value) (sym c.in-None.is ∙ c.first_bad.ensures)
    ∙ says-rest a.size a.x.now a.y.now a.c a.d (sym c.is_fft_size.ensures ∙ c.if-not-is_fft_size.false) c.if-x-size.false c.if-y-size.false c.if-c-size.false c.if-d-size.false
