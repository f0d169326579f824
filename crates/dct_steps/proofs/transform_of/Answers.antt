-- `dct_steps::transform_of` meets its contract: the plan that is lent is that of the size. Assumes nothing.
use mathlib.Core.Path.{sym, ap, subst, ◌∙◌}
use Prim.Native.Nat.{ℕ}
use native.Mathlib.Omega.{arith}
use lib.Dec.{T}
use Rattle.config.specs.Config.{among, fft_sizes}
use Rattle.kf_work.specs.Work.{plan}
use Rattle.fft_tables.proofs.Packs.{plan_at}
use Rattle.dct_steps.proofs.transform_of.Goals as goal

pub transform-requires : goal.transform-requires
transform-requires g c =
    let p = c.requires in
    let s = subst (λ (n : ℕ). T (among fft_sizes n)) p.1 p.0.0 in
    (p.0, omega arith, omega arith, c.plan.ensures ∙ plan_at g.row.C s ∙ ap plan (sym p.1))
