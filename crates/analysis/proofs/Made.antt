-- What the callees ensure, put together, is the definition of the frame. Assumes nothing.
use mathlib.Core.Path.{◌≡◌, sym, ap, ap₂, ◌∙◌}
use mathlib.Core.List.{List, ◌++◌}
use Prim.Native.Nat.{ℕ, ◌+◌, ◌-◌, ◌≤◌}
use native.Mathlib.Omega.{arith}
use lib.Dec.{T}
use lib.IntN.{ℤ, pos}
use lib.ListN.{length, get_or, drop, replicate, length-drop}
use Rattle.laws.specs.Lists.{tab}
use Rattle.laws.proofs.Lists.{tab-at}
use Rattle.config.specs.Config.{valid, nf, z}
use Rattle.config.proofs.Sound.{sound}
use Rattle.analysis_steps.specs.Buffer.{past_of, buffer_step, buffer_of}
use Rattle.analysis_steps.proofs.Buffers.{past_of_lem, past_of-step}
use Rattle.analysis_lines.specs.Lines.{time_buffer}
use Rattle.analysis_lines.proofs.Made.{fits}
use Rattle.analysis.specs.Buffers.{Buffers}
use Rattle.analysis.specs.Analysis.{kept_of, channel_of, channel_past}

module _ (c : ℕ) (past x : List ℤ) (v : T (valid c)) (hp : length past ≡ nf c - z c) (hx : length x ≡ nf c) where
  last-length : length (drop (z c) x) ≡ nf c - z c
  last-length = length-drop (z c) x ∙ ap (λ (n : ℕ). n - z c) hx

  -- the samples kept are the frame's last
  pub made_kept : (k : ℕ) (s : List ℤ) → k ≡ z c → s ≡ drop k x ++ replicate (300 - length (drop k x)) (pos 0) → s ≡ kept_of c past x
  unfolding kept_of time_buffer
  made_kept k s ek es =
      es
      ∙ ap (λ (m : ℕ). drop m x ++ replicate (300 - length (drop m x)) (pos 0)) ek
      ∙ ap₂ (λ (l : List ℤ) (n : ℕ). l ++ replicate (300 - n) (pos 0)) (sym (past_of-step (nf c) (z c) past (fits c past x v hp hx) x hx)) last-length

  -- the past of a channel that keeps this frame: the frame's last samples
  pub next_past : channel_past (channel_of c (kept_of c past x)) ≡ drop (z c) x
  unfolding kept_of time_buffer
  next_past =
      ap (λ (l : List ℤ). tab (nf c - z c) (λ k. get_or (l ++ replicate (300 - (nf c - z c)) (pos 0)) k (pos 0))) (past_of-step (nf c) (z c) past (fits c past x v hp hx) x hx)
      ∙ tab-at (drop (z c) x) (replicate (300 - (nf c - z c)) (pos 0)) (pos 0) (nf c - z c) last-length

-- the next frame's time buffer is the step from this one's: the channel does what the Rust's time buffer does
pub buffers : Buffers
unfolding time_buffer buffer_step
buffers = record {
  next_buffer = λ c past x v hp hx y.
      let s = sound c v in
      ap (λ (p : List ℤ). p ++ y ++ replicate (z c) (pos 0))
      (ap (λ (p : List ℤ). past_of (nf c) (z c) (buffer_of (nf c) (z c) p)) (next_past c past x v hp hx)
      ∙ past_of_lem (nf c) (z c) (drop (z c) x) (ap (λ (n : ℕ). n + z c) (last-length c past x v hp hx) ∙ omega arith)
      ∙ sym (past_of-step (nf c) (z c) past (fits c past x v hp hx) x hx));
}

-- how much of its samples an accepted call reads; n is the frame's length
pub keeps : (c : ℕ) → T (valid c) → {n k : ℕ} → n ≡ nf c → k ≡ z c → (k ≤ n) × (n - k ≤ 300) × (n - k ≡ nf c - z c)
keeps c v {n} {k} e f = let s = sound c v in (omega arith, omega arith, omega arith)
