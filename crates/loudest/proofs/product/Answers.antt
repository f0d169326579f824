-- `loudest::product` meets its contract: a band's number of lines is at most 480, which is itself as an f32. Assumes nothing.
use mathlib.Core.Path.{ap}
use native.Mathlib.Omega.{arith}
use lib.IntN.{ℤ}
use lib.Ieee.{nan, binary32, mul, of_int}
use lib.ListN.{get_or}
use Rattle.laws.proofs.Whole.{width_fits}
use Rattle.loudest.proofs.Rank.{few, as_i32}
use Rattle.loudest.proofs.product.Goals as goal

pub overflow_sub-lines : goal.overflow_sub-lines
overflow_sub-lines c = let s = c in
    omega (arith, s.requires.2 s.args.b s.requires.0)

pub overflow_cast-result : goal.overflow_cast-result
overflow_cast-result c = let s = c in
    record { sfits = omega (arith, few s.args.edges.now _ s.requires.2 s.args.b s.requires.0) }

pub int_to_float-result : goal.int_to_float-result
int_to_float-result c = let s = c in
    rw (as_i32 s.args.edges.now _ s.requires.2 s.args.b s.requires.0) (width_fits _ (few s.args.edges.now _ s.requires.2 s.args.b s.requires.0))

pub returns : goal.returns
returns c = let s = c in
    ap (λ (n : ℤ). mul binary32 (get_or s.args.energies.now s.args.b nan) (of_int binary32 n)) (as_i32 s.args.edges.now _ s.requires.2 s.args.b s.requires.0)
