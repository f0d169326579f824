-- What one read has brought, and how far reads get: each brings something or is the last. Assumes nothing.
use Prim.Native.Nat.{ℕ, ◌+◌, ◌-◌, ◌≤◌, ◌<◌}
use mathlib.Core.Path.{◌≡◌, refl, sym, ap, ◌∙◌, subst}
use mathlib.Core.Bool.{Bool, true, false, cond, true≢false}
use mathlib.Core.List.{List, ◌++◌}
use native.Mathlib.Omega.{arith}
use lib.Dec.{ltb}
use lib.ListN.{length, take, length-take}
use lib.Seq.{take-append-le}
use borrow.Author.Tests.{le-ltb, ltb-true}
use Rattle.frame_file.specs.File.{frame_bytes}
use Rattle.listing.specs.declared.Lister.{Lister}
use Rattle.listing.specs.Steps.{step}
use Rattle.lmf_list.specs.declared.Input.{Input}
use Rattle.lmf_list.specs.declared.ReadStep.{ReadStep}
use Rattle.lmf_list.specs.Reading.{brought, Came, Filled, Next}

-- a read of n bytes to the places from `at` on
module _ (before after : List ℕ) (at n : ℕ) (r : Input) where
  pub came : (failed : Bool) → r ≡ brought at (at + n) failed → at + n ≤ length after → take at after ≡ take at before → Came before at r after
  unfolding brought
  came true e h t =
      subst (λ (r : Input). Came before at r after) (sym e)
      (record { from = omega arith; within = omega arith; stays = t; more = sym (le-ltb at at (omega arith)); failed = λ q. refl })
  came false e h t =
      subst (λ (r : Input). Came before at r after) (sym e) (record { from = omega arith; within = h; stays = t; more = refl; failed = λ q. absurd (true≢false q) })

-- what is left of n places, and one read more where more may come
abbrev pub left : ℕ → Input → ℕ
left n r = (n - r.len) + cond r.more 1 0

-- a read to place `at` leaves less: it brings something, or it is the last
pub less : (n : ℕ) (i r : Input) → i.more ≡ true → i.len < n → i.len ≤ r.len → r.more ≡ ltb i.len r.len → left n r < left n i
less n i r m h g e = rw m (go (ltb i.len r.len) e refl)
  where
    go : (b : Bool) → r.more ≡ b → ltb i.len r.len ≡ b → left n r < (n - i.len) + 1
    go true p q = rw p (let l = ltb-true i.len r.len q in omega arith)
    go false p q = rw p (omega arith)

-- reads that went on to the end of a slice, or to their own
pub filled : (r : Input) (buf : List ℕ) → r.len ≤ length buf → (r.more ≡ true → length buf ≤ r.len) → Filled r buf
filled r buf h g = record { counts = (h, simp length-take (omega arith)); full = λ q. let l = g q in omega arith }

-- the front of a room is filled for a step, and the rest of it stands behind
pub next-step : (l : Lister) (r : ReadStep) (part rest : List ℕ) → length part ≡ frame_bytes l.channel.config
    → (r.stepped ≡ step l (take r.input.len part)) × Filled r.input part → Next l r (part ++ rest)
next-step l r part rest e (s, f) =
    record {
      stepped = s ∙ ap (step l) (sym (take-append-le r.input.len part rest f.counts.0));
      most = omega (arith, f.counts.0);
      full = λ q. f.full q ∙ e;
    }
