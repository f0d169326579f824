-- `singles` meets its contract. The loop's invariant: the bands of the first q fours are of one line each, and their places of both slices are filled. Assumes nothing.
use mathlib.Core.Path.{◌≡◌}
use Prim.Native.Nat.{◌+◌, ◌*◌, ◌/◌}
use native.Mathlib.Omega.{arith}
use lib.ListN.{length}
use lib.Ieee.{nan}
use borrow.Author.Count.{below_more}
use Rattle.laws.proofs.Lists.{filled_none}
use Rattle.measurement_steps.proofs.Bands.{apart_energy, apart_place, apart_inside}
use Rattle.measurement_steps.proofs.Filled.{filled_on}
use Rattle.measurement_steps.proofs.singles.Goals as goal

pub loop-q-init : goal.loop-q-init
loop-q-init c = (λ p b. absurd (omega arith), filled_none _ _, filled_none _ _)

pub apart-requires : goal.apart-requires
apart-requires c = let s = c in
    (omega arith, λ b l. let r = s.requires.3 b (omega arith) in (r.0, omega arith))

pub returns-then-not-apart : goal.returns-then-not-apart
returns-then-not-apart c = let inv = c.loop-q.invariant in
    record {
      fours = (omega arith, inv.0, λ l. c.apart.ensures.1 c.if-not-apart.true);
      bands = (inv.1.holds, inv.2.holds);
    }

pub single-requires : goal.single-requires
single-requires c = let s = c in
    let each = c.apart.ensures.0 c.if-not-apart.false in
    let room = apart_inside s.args.edges.now (4 * c.loop-q.q) each (length s.args.out.now) (length s.args.lines.now) (omega arith) s.requires.3 in
    (room, omega arith, omega arith, omega arith)

pub loop-q-preserved : goal.loop-q-preserved
loop-q-preserved c = let a = c.args in
    let l = c.loop-q in
    let each = c.apart.ensures.0 c.if-not-apart.false in
    let e : 4 * l.q + 4 ≡ 4 * (l.q + 1) = omega arith in
    let wrote = c.single.ensures in (
      below_more _ _ l.invariant.0 each,
      rw wrote.0 (rw e at (filled_on 4 _ nan l.invariant.1 (omega arith) (apart_energy a.edges.now (4 * l.q) each a.lines.now))),
      rw wrote.1 (rw e at (filled_on 4 _ 0 l.invariant.2 (omega arith) (apart_place a.edges.now (4 * l.q) each a.lines.now))),
    )

pub returns-clause-fours : goal.returns-clause-fours
returns-clause-fours c = let inv = c.loop-q.invariant in
    (omega arith, λ p b. inv.0 p (omega arith), λ l. absurd (omega arith))

pub returns-clause-bands : goal.returns-clause-bands
returns-clause-bands c = let inv = c.loop-q.invariant in
    let e : c.loop-q.q ≡ length c.loop-q.out / 4 = omega arith in
    (rw e at inv.1.holds, rw e at inv.2.holds)
