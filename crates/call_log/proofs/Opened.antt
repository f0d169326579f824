-- A log whose header is good has its five bytes. Assumes nothing.
use mathlib.Core.Path.{◌≡◌, refl}
use mathlib.Core.Bool.{Bool, true, false, cond}
use mathlib.Core.List.{List}
use Prim.Native.Nat.{ℕ, ◌≤◌}
use borrow.Author.Tests.{ltb-false, eqb-false}
use lib.Dec.{ltb}
use lib.ListN.{length}
use Rattle.std.specs.Prelude.{⊤, Result, Err}
use Rattle.refusals.specs.declared.Refusal.{Refusal}
use Rattle.refusals.specs.declared.Refusal.TheVariants.{ShortFile}
use Rattle.call_log.specs.Log.{header_of, header_number}

pub good_long : (b : List ℕ) → header_number (header_of b) ≡ 0 → 5 ≤ length b
unfolding header_of
good_long b e = go (ltb (length b) 5) _ (ltb-false (length b) 5) e
  where
    go : (t : Bool) (other : Result ⊤ Refusal) → (t ≡ false → 5 ≤ length b) → header_number (cond t (Err ShortFile) other) ≡ 0 → 5 ≤ length b
    go true other h e = absurd (eqb-false 8 0 refl e)
    go false other h e = h refl
