-- `call_made::one_area` meets its contract: its peaks are as before a call. Assumes nothing.
use mathlib.Core.Path.{ap, ◌∙◌}
use mathlib.Core.List.{List}
use Prim.Native.Nat.{ℕ}
use Rattle.call_made.specs.Made.{with_peaks}
use Rattle.call_made.proofs.one_area.Goals as goal

pub returns : goal.returns
returns c = let a = c.args in
    c.with_peaks.ensures ∙ ap (λ (z : List ℕ). with_peaks a.told.number a.told.index a.extra a.x a.m z 0) c.peaks.ensures.value
