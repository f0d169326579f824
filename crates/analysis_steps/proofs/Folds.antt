-- The runs of the fold: what each reads of the past, of the frame and of the zeros is what the time buffer holds there. Assumes nothing.
use mathlib.Core.Path.{◌≡◌, refl, sym, ap, ap₂, ◌∙◌}
use mathlib.Core.List.{List, ◌++◌, append_assoc}
use Prim.Native.Nat.{ℕ, ◌+◌, ◌-◌, ◌*◌, ◌/◌, ◌≤◌, ◌<◌}
use native.Mathlib.Omega.{arith}
use lib.IntN.{ℤ, pos}
use lib.ListN.{length, drop, length-append, get_or-replicate, get_or-append}
use lib.Seq.{get_or-append-add, get_or-drop}
use lib.Ieee.{Float, binary32, sub, of_int, of_bits}
use Rattle.laws.specs.Lists.{tab}
use Rattle.laws.proofs.Lists.{tab_ext}
use Rattle.analysis_steps.specs.Buffer.{buffer_step, buffer_of}
use Rattle.analysis_steps.specs.Fold.{weighed, fold_low, fold_high, folded}
use Rattle.analysis_steps.specs.Runs.{quiet, low, low_at, still}
use Rattle.analysis_steps.proofs.Buffers.{step_of}

-- place j of two lists, one behind the other, weighed: it is in the first, in the second, or in zeros
module _ (a b : List ℤ) (w : List ℕ) (j k : ℕ) where
  weighed_front : j ≡ k → k < length a → weighed a w k ≡ weighed (a ++ b) w j
  unfolding weighed
  weighed_front e h = rw (e, get_or-append a b (pos 0) k h)

  weighed_back : j ≡ length a + k → weighed b (drop (length a) w) k ≡ weighed (a ++ b) w j
  unfolding weighed
  weighed_back e = rw (e, get_or-append-add a b k (pos 0), get_or-drop (length a) w k)

weighed-quiet : (a : List ℤ) (z : ℕ) (w : List ℕ) (j k : ℕ) → j ≡ length a + k → k < z → still w (length a + k) ≡ weighed (a ++ quiet z) w j
unfolding weighed of_int of_bits
weighed-quiet a z w j k e h = rw (e, get_or-append-add a (quiet z) k (pos 0), get_or-replicate z k (pos 0) (pos 0) h)

-- the first half: the frame's run, and the run that meets the zeros
module _ (x : List ℤ) (w : List ℕ) (z h : ℕ) (small : z ≤ h) (whole : length x ≡ 2 * h) where
  pub frame_run : (i : ℕ) → i < h - z → low_at x w (h + z) i ≡ low_at (x ++ quiet z) w (h + z) i
  frame_run i b = ap₂ low (weighed_front x (quiet z) w _ _ refl (omega arith)) (weighed_front x (quiet z) w _ _ refl (omega arith))

  pub zeros_run : (i : ℕ) → i < h - (h - z) → low (weighed x w (2 * z - 1 - i)) (still w (length x + i)) ≡ low_at (x ++ quiet z) w (h + z) (h - z + i)
  zeros_run i b = ap₂ low (weighed_front x (quiet z) w _ _ (omega arith) (omega arith)) (weighed-quiet x z w _ i (omega arith) (omega arith))

-- the second half: the run that meets the frame, and the past's
module _ (past x : List ℤ) (w : List ℕ) (z h : ℕ) (small : z ≤ h) (whole : length past + z ≡ 2 * h) where
  pub meet_run : (i : ℕ) → i < z → sub binary32 (weighed past w (0 + i)) (weighed x (drop (length past) w) (z - 1 - i)) ≡ fold_high h w (past ++ x) i
  unfolding fold_high
  meet_run i b = ap₂ (sub binary32) (weighed_front past x w _ _ (omega arith) (omega arith)) (weighed_back past x w _ _ (omega arith))

  pub past_run : (i : ℕ) → i < h - z → sub binary32 (weighed past w (z + i)) (weighed past w (length past - 1 - i)) ≡ fold_high h w (past ++ x) (z + i)
  unfolding fold_high
  past_run i b = ap₂ (sub binary32) (weighed_front past x w _ _ refl (omega arith)) (weighed_front past x w _ _ (omega arith) (omega arith))

-- both halves are the buffer's
pub halves : (past x : List ℤ) (w : List ℕ) (n z a b : ℕ) {p q : List Float} → n ≡ 2 * (n / 2) → length x ≡ n → length past + z ≡ n → z ≤ n / 2
    → p ≡ tab a (low_at (x ++ quiet z) (drop (length past) w) (a + z)) → a ≡ n / 2
    → q ≡ tab b (fold_high b w (past ++ x)) → b ≡ n / 2
    → p ++ q ≡ folded n w (buffer_step n z (buffer_of n z past) x)
unfolding folded fold_low fold_high
halves past x w n z a b even frame fits small c d e f =
    let h = n / 2 in
    let t = x ++ quiet z in
    let long = length-append past x in
    ap₂ (λ (s t : List Float). s ++ t)
    (c
    ∙ ap (λ (i : ℕ). tab i (low_at t (drop (length past) w) (i + z))) d
    ∙ tab_ext h _ (fold_low h w (past ++ t)) (λ i b. ap₂ low (weighed_back past t w _ _ (omega arith)) (weighed_back past t w _ _ (omega arith)))
    ∙ ap (λ (l : List ℤ). tab h (fold_low h w l)) (sym (append_assoc past x (quiet z))))
    (e
    ∙ ap (λ (i : ℕ). tab i (fold_high i w (past ++ x))) f
    ∙ tab_ext h _ (fold_high h w (past ++ x ++ quiet z)) (λ i b. ap₂ (sub binary32) (weighed_front (past ++ x) (quiet z) w _ _ refl (omega arith)) (weighed_front (past ++ x) (quiet z) w _ _ refl (omega arith))))
    ∙ ap (folded n w) (sym (step_of n z past fits x))
