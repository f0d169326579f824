-- Room for a line, and a line put there. Assumes nothing.
use Prim.Native.Nat.{ℕ, ◌+◌, ◌-◌, ◌≤◌, min}
use mathlib.Core.Path.{◌≡◌, refl, sym, ap, ◌∙◌}
use mathlib.Core.List.{List}
use mathlib.Core.Bool.{Bool, true, false, cond, true≢false}
use native.Mathlib.Nat.{min-le_right}
use native.Mathlib.Omega.{arith}
use lib.Dec.{ltb}
use lib.ListN.{length}
use lib.Seq.{paste}
use borrow.Author.Tests.{ltb-false}
use Rattle.listing.specs.declared.line.Text.{Text}
use Rattle.lmf_list.specs.declared.Output.{Output}
use Rattle.lmf_list.specs.Writing.{waiting, Room, Put}

module _ (room n : ℕ) where
  pub made_room : (ok : Bool) → ltb (room - n) 64 ≡ true → Room room n (record { len = 0; ok = ok })
  made_room ok t = record { len = sym (ap (λ (b : Bool). cond b 0 n) t); ok = λ q. absurd (true≢false (sym t ∙ q)) }

  pub had_room : ltb (room - n) 64 ≡ false → Room room n (record { len = n; ok = true })
  had_room t = record { len = sym (ap (λ (b : Bool). cond b 0 n) t); ok = λ q. refl }

  -- and a line of 64 bytes finds it
  pub room_enough : 64 ≤ room → n ≤ room → waiting room n + 64 ≤ room
  room_enough h g = go (ltb (room - n) 64) refl
    where
      go : (b : Bool) → ltb (room - n) 64 ≡ b → cond b 0 n + 64 ≤ room
      go true t = omega arith
      go false t = let l = ltb-false (room - n) 64 t in omega arith

-- a line put where there is room for it
pub put : (before : List ℕ) (n : ℕ) (t : Text) → 64 ≤ length before → n ≤ length before → {ready : Output} → Room (length before) n ready → {len : ℕ} {after : List ℕ}
    → len ≡ ready.len + min t.len 64 → after ≡ paste before ready.len t.bytes (min t.len 64) → length after ≡ length before
    → Put before n t (record { len = len; ok = ready.ok }) after
put before n t h g r e p l =
    record {
      len = e ∙ ap (λ (k : ℕ). k + min t.len 64) r.len;
      within = omega (arith, r.len, room_enough (length before) n h g, min-le_right t.len 64);
      bytes = p ∙ ap (λ (k : ℕ). paste before k t.bytes (min t.len 64)) r.len;
      ok = r.ok;
    }
