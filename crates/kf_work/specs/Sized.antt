-- What is promised of the plan of each accepted size. Definitions only.
use Rattle.std.specs.Prelude.{◌≡◌, ℕ, ◌<◌, T, length}
use Rattle.config.specs.Config.{among, fft_sizes}
use Rattle.kf_work.specs.Work.{plan, span, planned}
use Rattle.kf_work.specs.Packed.{fives}

pub record Sized (n : ℕ) : Type 0 where
  -- no radix but 2, 3, 4 and 5, so `kf_bfly_generic` is never reached; and each inner length is the size of what is left of the plan
  pub plan_radixes : T (planned (plan n))
  -- the innermost radix is 5, and no other one
  pub plan_fives : T (fives (plan n))
  -- the plan has a stage above the innermost
  pub stages : 2 < length (plan n)
  -- it multiplies to the size: the 16 steps that `plan` takes at most are enough
  pub whole : span (plan n) ≡ n

-- of every size that some configuration has
abbrev pub AllSized : Type 0
AllSized = (n : ℕ) → T (among fft_sizes n) → Sized n
