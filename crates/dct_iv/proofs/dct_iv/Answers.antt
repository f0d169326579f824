-- `dct_iv::dct_iv` meets its contract: a refusal writes nothing, and acceptance says what `run` asks. Assumes nothing.
use mathlib.Core.Path.{refl, sym, subst}
use Prim.Native.Nat.{ℕ}
use lib.Dec.{T}
use Rattle.std.proofs.lemmas.Result.{err_from_is_err_and}
use Rattle.config.specs.Config.{among, dct_lengths}
use Rattle.refusals.proofs.Verdicts as verdicts
use Rattle.dct_iv.proofs.Lengths.{accepts, refused, accepted}
use Rattle.dct_iv.proofs.dct_iv.Goals as goal

pub returns-in_err-judge : goal.returns-in_err-judge
returns-in_err-judge c = let p = err_from_is_err_and c.from_residual.result c.from_residual.ensures.1 in
    rw (p.1, p.2) (refused c.args.length c.args.buf.now _ c.in_err-judge.ensures (verdicts.refused _))

pub run-requires : goal.run-requires
run-requires c = let s = accepts c.args.length c.args.buf.now _ c.in_ok-judge.ensures refl in
    subst (λ (n : ℕ). T (among dct_lengths n)) (sym s.1) s.0

pub returns : goal.returns
returns c = accepted c.args.length c.args.buf.now _ c.in_ok-judge.ensures refl _ c.run.ensures
