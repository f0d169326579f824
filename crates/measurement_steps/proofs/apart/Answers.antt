-- `apart` meets its contract: edges that rise, four bands that end four lines on. Assumes nothing.
use mathlib.Core.Bool.{true≢false}
use mathlib.Core.Path.{sym, ◌∙◌}
use Prim.Native.Nat.{◌+◌}
use native.Mathlib.Omega.{arith}
use lib.ListN.{get_or}
use borrow.Author.Tests.{eqb-true, eq-eqb}
use Rattle.measurement_steps.proofs.Bands.{spaced}
use Rattle.measurement_steps.proofs.apart.Goals as goal

pub overflow_add-result-2 : goal.overflow_add-result-2
overflow_add-result-2 c = let s = c in
    let r = s.requires.1 s.args.b (omega arith) in
    record { fits = omega (arith, r) }

pub returns : goal.returns
returns c = let s = c in
    let es = s.args.edges.now in
    let b = s.args.b in (
      λ t k l. spaced es b 4 (λ j u. (s.requires.1 (b + j) (omega arith)).0) (omega (arith, eqb-true (get_or es (b + 4) 0) (get_or es b 0 + 4) t)) k (omega arith),
      λ f h. true≢false (sym (eq-eqb _ _ (h 4 (omega arith))) ∙ f),
    )
