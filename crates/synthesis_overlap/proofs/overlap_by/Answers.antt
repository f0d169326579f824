-- `synthesis_overlap::overlap_by` meets its contract: the steps, in the configuration's terms. Assumes nothing.
use mathlib.Core.Path.{sym, ap, ◌∙◌}
use native.Mathlib.Omega.{arith}
use lib.ListN.{length, length-replicate}
use Rattle.laws.specs.Numbers.{zero32}
use Rattle.config.proofs.Sound.{sound}
use Rattle.gains.specs.Gains.{gain}
use Rattle.synthesis_overlap.proofs.Made.{asked, halves, with-memory, with-samples}
use Rattle.synthesis_overlap.proofs.overlap_by.Goals as goal

pub overlap_add-requires : goal.overlap_add-requires
overlap_add-requires g c =
    let a = c.args in
    let p = c.requires in
    let s = sound a.c p.2 in
    let q = asked a.c p.2 in
    let h = halves a.c p.3 in
    let k = c.z.ensures in
    let w = c.window-w.ensures in (
      omega (arith, h, q.small),
      omega (arith, h, k, q.zeros),
      omega (arith, h, s.even, length-replicate g.row.N zero32),
      omega (arith, h, ap length w, q.window-long),
      rw w q.numbers,
      omega (arith, h, k, s.even),
      omega (arith, h, s.even),
    )

pub returns-clause-memory : goal.returns-clause-memory
returns-clause-memory g c =
    let a = c.args in
    let p = c.requires in
    with-memory a.c p.2 a.samples.now (c.gain.ensures ∙ ap gain (sym p.3)) (halves a.c p.3) c.z.ensures c.window-w.ensures c.overlap_add.ensures.memory

pub returns-clause-samples : goal.returns-clause-samples
returns-clause-samples g c =
    let a = c.args in
    let p = c.requires in
    with-samples a.c p.2 a.samples.now (c.gain.ensures ∙ ap gain (sym p.3)) (halves a.c p.3) c.z.ensures c.window-w.ensures a.memory.now c.overlap_add.ensures.samples
