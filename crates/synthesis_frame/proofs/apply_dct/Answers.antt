-- `synthesis_frame::apply_dct` meets its contract: the lines padded, and their DCT. Assumes nothing.
use mathlib.Core.Path.{sym, ap, subst, ◌∙◌}
use Prim.Native.Nat.{ℕ}
use lib.Dec.{T}
use Rattle.config.specs.Config.{among, dct_lengths}
use Rattle.dct_steps.specs.Dct.{dct_iv}
use Rattle.synthesis_frame.proofs.apply_dct.Goals as goal

pub run-requires : goal.run-requires
run-requires c = subst (λ (n : ℕ). T (among dct_lengths n)) (sym c.pad.auto.buf) c.requires.1

pub returns : goal.returns
returns c = c.run.ensures ∙ ap dct_iv c.pad.ensures
