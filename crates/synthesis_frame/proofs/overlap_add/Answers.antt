-- `synthesis_frame::overlap_add` meets its contract: the values, moved aside and scaled, are unfolded from there. Assumes nothing.
use mathlib.Core.Path.{ap, ◌∙◌}
use mathlib.Core.List.{List}
use Prim.Native.Nat.{◌*◌}
use lib.ListN.{length}
use lib.Ieee.{Float}
use Rattle.synthesis_steps.specs.Places.{unfolded, windowed, output, remains}
use Rattle.synthesis_steps.proofs.Places.{length-scaled}
use Rattle.synthesis_frame.proofs.overlap_add.Goals as goal

pub overlap_add-requires : goal.overlap_add-requires
overlap_add-requires c = let p = c.requires in
    (p.0, p.1, ap length c.scaled.ensures ∙ length-scaled c.args.g c.args.samples.now ∙ p.6, p.3, p.4, p.5, p.6)

pub returns : goal.returns
returns c = let a = c.args in
    let moved = c.scaled.ensures in
    let o = c.overlap_add.ensures in
    record {
      values = moved;
      memory = o.memory ∙ ap (λ (v : List Float). remains (2 * a.h) a.z (windowed a.w.now (unfolded a.h v))) moved;
      samples = o.samples ∙ ap (λ (v : List Float). output (2 * a.h) a.z a.memory.now (windowed a.w.now (unfolded a.h v))) moved;
    }
