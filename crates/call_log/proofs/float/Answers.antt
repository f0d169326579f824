-- `call_log::float` meets its contract: a pattern whose bits but the sign are above an infinity's is a NaN's, and 0 / 0 is the NaN. Assumes nothing.
use mathlib.Core.Bool.{Bool, not, true, true≢false}
use lib.Dec.{T}
use lib.Ieee.{Float, nan, inf, fin, binary32, of_bits, is_nan, div}
use lib.Ieee.Bits.{nan_bits_is, nan_bits_above}
use borrow.Author.Tests.{lt-ltb, le-ltb}
use mathlib.Core.Path.{◌≡◌, refl, sym, ◌∙◌, subst}
use Rattle.call_log.proofs.float.Goals as goal

is_nan_lem : (x : Float) → is_nan x ≡ true → x ≡ nan
unfolding is_nan
is_nan_lem nan e = refl
is_nan_lem (inf s) e = absurd (true≢false (sym e))
is_nan_lem (fin s m k) e = absurd (true≢false (sym e))

pub float_from_bits-result : goal.float_from_bits-result
float_from_bits-result c = subst (λ (t : Bool). T (not t)) (sym (nan_bits_above binary32 c.args.bits ∙ le-ltb _ _ c.if-bits-gt2139095040.false)) tt

pub returns-then-bits-gt2139095040 : goal.returns-then-bits-gt2139095040
unfolding div of_bits
returns-then-bits-gt2139095040 c = sym (is_nan_lem (of_bits binary32 c.args.bits) (sym (nan_bits_is binary32 c.args.bits) ∙ nan_bits_above binary32 c.args.bits ∙ lt-ltb _ _ c.if-bits-gt2139095040.true))
