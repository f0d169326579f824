-- `synthesis_overlap::overlap_20` meets its contract: the steps, at the numbers of configuration 15. Assumes nothing.
use mathlib.Core.Path.{ap, ◌∙◌}
use Rattle.config.specs.Config.{nf}
use Rattle.synthesis_overlap.proofs.Made.{written_15, fits_15, left_15}
use Rattle.synthesis_overlap.proofs.overlap_20.Goals as goal

pub scaled-requires : goal.scaled-requires
scaled-requires c = c.requires.1 ∙ ap nf c.requires.2 ∙ written_15.frame

pub overlapped-requires : goal.overlapped-requires
overlapped-requires c =
    let a = c.args in
    let p = c.requires in
    fits_15 a.c p.2 a.memory.now a.samples.now p.0 p.1 c.window-w.ensures c.gain.result c.scaled.ensures

pub remaining-requires : goal.remaining-requires
remaining-requires c =
    let a = c.args in
    let p = c.requires in
    let q = fits_15 a.c p.2 a.memory.now a.samples.now p.0 p.1 c.window-w.ensures c.gain.result c.scaled.ensures in
    (q.0, q.1, q.2, q.3, q.4, q.5)

pub returns-clause-memory : goal.returns-clause-memory
returns-clause-memory c =
    let a = c.args in
    let p = c.requires in
    (left_15 a.c p.2 a.memory.now a.samples.now p.0 p.1 c.window-w.ensures c.gain.ensures c.scaled.ensures c.remaining.ensures c.overlapped.ensures).memory

pub returns-clause-samples : goal.returns-clause-samples
returns-clause-samples c =
    let a = c.args in
    let p = c.requires in
    (left_15 a.c p.2 a.memory.now a.samples.now p.0 p.1 c.window-w.ensures c.gain.ensures c.scaled.ensures c.remaining.ensures c.overlapped.ensures).samples
