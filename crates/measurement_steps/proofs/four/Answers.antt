-- `four` meets its contract: the four shares are those of its stretch, and the scan takes four turns. Assumes nothing.
use mathlib.Core.Path.{refl, ap, ◌∙◌}
use Prim.Native.Nat.{◌+◌}
use Rattle.measurement_steps.specs.declared.Reading.{Reading}
use Rattle.measurement_steps.specs.Peak.{higher}
use Rattle.measurement_steps.proofs.Peaks.{four_is}
use Rattle.measurement_steps.proofs.four.Goals as goal

pub returns : goal.returns
returns c = let s = c in
    let a = s.args in
    let p = c.square-p in
    let q = c.square-q in
    let r = c.square-r in
    let t = c.square-s in
    let i = a.i in
    c.higher-3.ensures
    ∙ ap (λ (x : Reading). higher x (i + 3) t.result) (c.higher-2.ensures ∙ ap (λ (x : Reading). higher x (i + 2) r.result) (c.higher-half.ensures ∙ ap (λ (x : Reading). higher x (i + 1) q.result) c.higher.ensures))
    ∙ four_is a.width a.lines.now i a.b s.requires.1 _ _ _ _ _ s.requires.0 p.ensures q.ensures r.ensures t.ensures refl
