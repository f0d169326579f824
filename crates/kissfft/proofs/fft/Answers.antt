-- `kissfft::fft` meets its contract: a refusal writes nothing, and acceptance says what `run` asks. Assumes nothing.
use mathlib.Core.Path.{refl}
use lib.ListN.{length}
use Rattle.std.proofs.lemmas.Result.{err_from_is_err_and}
use Rattle.refusals.proofs.Verdicts as verdicts
use Rattle.kissfft.proofs.Judged.{accepts, refused, accepted}
use Rattle.kissfft.proofs.fft.Goals as goal

pub returns-in_err-judge : goal.returns-in_err-judge
returns-in_err-judge c = let a = c.args in
    let p = err_from_is_err_and c.from_residual.result c.from_residual.ensures.1 in
    rw (p.1, p.2) (refused a.size a.inverse a.re_in.now a.im_in.now a.re_out.now a.im_out.now _ c.in_err-judge.ensures (verdicts.refused _))

pub run-requires : goal.run-requires
run-requires c = let a = c.args in
    let s = accepts a.size a.re_in.now a.im_in.now (length a.re_out.now) (length a.im_out.now) _ c.in_ok-judge.ensures refl in
    rw s.x_fits (s.size, s.y_fits, s.c_fits, s.d_fits)

pub returns : goal.returns
returns c = let a = c.args in
    let s = accepts a.size a.re_in.now a.im_in.now (length a.re_out.now) (length a.im_out.now) _ c.in_ok-judge.ensures refl in
    accepted a.size a.inverse a.re_in.now a.im_in.now a.re_out.now a.im_out.now _ c.in_ok-judge.ensures refl _ _ s.x_fits c.run.ensures
