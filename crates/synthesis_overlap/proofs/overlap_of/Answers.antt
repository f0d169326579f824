-- `synthesis_overlap::overlap_of` meets its contract: the last arm is of the longest frame. Assumes nothing.
use mathlib.Core.Path.{sym, subst, ◌∙◌}
use Prim.Native.Nat.{ℕ}
use lib.Dec.{T}
use Rattle.config.specs.Config.{among, dct_lengths}
use Rattle.config.proofs.Sound.{sound}
use Rattle.config.proofs.Longest.{is_longest}
use Rattle.synthesis_overlap.proofs.Made.{only_15}
use Rattle.synthesis_overlap.proofs.overlap_of.Goals as goal

pub overlap_20-requires : goal.overlap_20-requires
overlap_20-requires c =
    let p = c.requires in
    (p.0, p.1, only_15 c.args.c p.2 (sym p.1 ∙ c.in-20.is))

pub overlap_by-requires-in_default : goal.overlap_by-requires-in_default
overlap_by-requires-in_default c =
    let p = c.requires in
    let a = subst (λ (n : ℕ). T (among dct_lengths n)) (sym p.1) (sound c.args.c p.2).dct_length in
    (p.0, p.1, p.2, sym p.1 ∙ is_longest _ a c.in_default.in_default-own.rest)
