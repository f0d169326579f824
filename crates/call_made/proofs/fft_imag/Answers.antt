-- `call_made::fft_imag` meets its contract: the parts that it reads are what the transform is handed. Assumes nothing.
use Rattle.refusals.specs.Refusals.{told_by}
use mathlib.Core.Path.{ap, ◌∙◌}
use Prim.Native.Nat.{ℕ}
use lib.Dec.{eqb}
use lib.ListN.{drop}
use Rattle.frame_file.specs.File.{short}
use Rattle.call_made.proofs.Lends.{lends}
use Rattle.call_made.proofs.Answers.{transformed-is}
use Rattle.call_made.proofs.fft_imag.Goals as goal

pub returns : goal.returns
returns c = let f = c.fft-transformed in
    let s = c in
    let t = c in
    let r = t.read_floats-lengths.ensures in
    let u = lends t.area-x.ensures r.0 s.count_places-m.ensures in
    let v = lends s.area-y.ensures (s.rest.ensures ∙ ap (drop 2) r.0) s.count_places-n.ensures in
    let size = s.short-size.ensures ∙ ap short s.rest-2.ensures in
    let inverse = ap (λ (k : ℕ). eqb k 1) s.byte_at-is_inverse.ensures in
    record { value = transformed-is _ _ (told_by f.result) _ _ size inverse r.1 u v c.peaks.ensures.value f.ensures c.told.ensures; im_after = r.1 }
