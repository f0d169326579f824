-- `call_made::with_peaks` meets its contract: its second area is as before a call. Assumes nothing.
use mathlib.Core.Path.{ap}
use mathlib.Core.List.{List}
use lib.Ieee.{Float}
use Rattle.call_made.specs.Made.{answer_of}
use Rattle.call_made.proofs.with_peaks.Goals as goal

pub returns : goal.returns
returns c = let a = c.args in
    ap (λ (y : List Float). answer_of a.told.number a.told.index a.extra a.x a.m y 0 a.z a.o) c.area.ensures.value
