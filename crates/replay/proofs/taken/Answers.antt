-- `replay::taken` meets its contract: a call that is taken is within the bytes (`call_within`). Assumes nothing.
use mathlib.Core.Path.{◌≡◌, refl, sym, ap, ◌∙◌, subst}
use mathlib.Core.List.{List, [], ◌∷◌}
use Prim.Native.Nat.{ℕ, ◌≤◌}
use native.Mathlib.Omega.{arith}
use lib.ListN.{length}
use Rattle.std.specs.Prelude.{Option, Some, None}
use Rattle.std.proofs.Common.{unwrap_or}
use Rattle.call_log.specs.Log.{call_taken}
use Rattle.call_log.proofs.Fields.{call_within}
use Rattle.replay.specs.Steps.{whole_of, taken_of}
use Rattle.replay.proofs.Parts.{none_taken}
use Rattle.replay.proofs.taken.Goals as goal

whole-is : (t : Option ℕ) → unwrap_or t 0 ≡ whole_of t
whole-is (Some n) = refl
whole-is None = refl

most : (b : List ℕ) (t : Option ℕ) → call_taken b ≡ t → whole_of t ≤ length b
most [] t e = subst (λ (n : ℕ). n ≤ 0) (none_taken [] refl ∙ ap whole_of e) (omega arith)
most (x ∷ b) (Some n) e = call_within (x ∷ b) n (omega arith) e
most (x ∷ b) None e = omega arith

pub returns : goal.returns
returns c = let b = c.args.b.now in
    let v : c.unwrap_or.result ≡ taken_of b = c.unwrap_or.ensures ∙ whole-is c.call_taken.result ∙ ap whole_of c.call_taken.ensures in
    record { value = v; upper_bound = subst (λ (n : ℕ). n ≤ length b) (sym v) (most b (call_taken b) refl) }
