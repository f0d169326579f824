-- `dct_iv::judge` meets its contract: each return is the definition's verdict. Assumes nothing.
use mathlib.Core.Path.{sym, ◌∙◌}
use Rattle.dct_iv.proofs.Lengths.{says_2, says_3, says-rest}
use Rattle.dct_iv.proofs.judge.Goals as goal

pub returns-then-not-is_dct_length : goal.returns-then-not-is_dct_length
returns-then-not-is_dct_length c = let a = c.args in
    says_2 a.n a.buf.now (sym c.is_dct_length.ensures ∙ c.if-not-is_dct_length.true)

pub returns-then-buf-n : goal.returns-then-buf-n
returns-then-buf-n c = let a = c.args in
    says_3 a.n a.buf.now (sym c.is_dct_length.ensures ∙ c.if-not-is_dct_length.false) c.if-buf-n.true

pub returns : goal.returns
returns c = let a = c.args in
    says-rest a.n a.buf.now (sym c.is_dct_length.ensures ∙ c.if-not-is_dct_length.false) c.if-buf-n.false c.on_values.ensures
