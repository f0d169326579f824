-- The time buffer: what its step makes of a past and a frame. Assumes nothing.
use mathlib.Core.Path.{◌≡◌, ap, ◌∙◌}
use mathlib.Core.List.{List, ◌++◌, append_assoc}
use Prim.Native.Nat.{ℕ, ◌+◌, ◌-◌}
use native.Mathlib.Omega.{arith}
use lib.IntN.{ℤ, pos}
use lib.ListN.{length, take, drop, length-drop, length-replicate}
use lib.Seq.{take_at, drop_at, drop-append-add, drop-append-le}
use Rattle.analysis_steps.specs.Buffer.{past_of, buffer_step, buffer_of}
use Rattle.analysis_steps.specs.Runs.{quiet}

module _ (n z : ℕ) (p : List ℤ) (fits : length p + z ≡ n) where
  -- a buffer that holds a past gives it
  pub past_of_lem : past_of n z (buffer_of n z p) ≡ p
  unfolding past_of buffer_of
  past_of_lem =
      ap (λ (l : List ℤ). take (n - z) (drop n l)) (append_assoc (quiet n) p (quiet z))
      ∙ ap (take (n - z)) (drop_at (quiet n) (p ++ quiet z) n (length-replicate n (pos 0)))
      ∙ take_at p (quiet z) (n - z) (omega arith)

  -- so the step is the past, the frame and zeros
  pub step_of : (x : List ℤ) → buffer_step n z (buffer_of n z p) x ≡ p ++ x ++ quiet z
  unfolding buffer_step
  step_of x = ap (λ (l : List ℤ). l ++ x ++ quiet z) past_of_lem

  -- and the past that it holds is the frame's last samples
  pub past_of-step : (x : List ℤ) → length x ≡ n → past_of n z (buffer_step n z (buffer_of n z p) x) ≡ drop z x
  unfolding past_of
  past_of-step x e =
      let k : n ≡ length p + z = omega arith in
      let l : length (drop z x) ≡ n - z = length-drop z x ∙ ap (λ (i : ℕ). i - z) e in
      ap (λ (t : List ℤ). take (n - z) (drop n t)) (step_of x ∙ append_assoc p x (quiet z))
      ∙ ap (λ (i : ℕ). take (n - z) (drop i (p ++ (x ++ quiet z)))) k
      ∙ ap (take (n - z)) (drop-append-add p (x ++ quiet z) z ∙ drop-append-le z x (quiet z) (omega arith))
      ∙ take_at (drop z x) (quiet z) (n - z) l
