-- `near_nyquist::stop` meets its contract: the lower sum, and the search from the split on. Assumes nothing.
use mathlib.Core.Path.{ap, ◌∙◌}
use mathlib.Core.Bool.{not}
use Prim.Native.Nat.{ℕ, ◌+◌}
use native.Mathlib.Omega.{arith}
use lib.Ieee.{binary32, of_bits, mul, lt}
use Rattle.laws.specs.Lists.{first}
use Rattle.measurement_steps.specs.Energy.{total}
use Rattle.near_nyquist.specs.Sooner.{running, stop}
use Rattle.near_nyquist.proofs.Sums.{found_within}
use Rattle.near_nyquist.proofs.stop.Goals as goal

pub overflow_add-result : goal.overflow_add-result
overflow_add-result c = let s = c in
    omega (arith, found_within _ _ c.first_above.ensures, c.split_at.ensures.back_len, s.requires)

pub returns : goal.returns
unfolding stop
returns c = let parts = c.split_at.ensures in
    ap (λ (n : ℕ). c.args.split + n) (c.first_above.ensures
    ∙ (λ j. first (λ sum. not (lt (mul binary32 (of_bits binary32 0x41f00000) ((c.total.ensures ∙ ap total parts.front) j)) sum)) (running (parts.back j))))
