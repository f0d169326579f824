-- A slice filled some places at a time. Assumes nothing.
use mathlib.Core.Path.{◌≡◌, refl, sym, ap, ◌∙◌}
use mathlib.Core.List.{List, ◌++◌}
use Prim.Native.Nat.{ℕ, zero, suc, ◌+◌, ◌≤◌, ◌<◌}
use native.Mathlib.Nat.{add-zero, suc-add, add-suc}
use native.Mathlib.Numerals.{add-one}
use native.Mathlib.Omega.{arith}
use lib.ListN.{length, drop}
use lib.Seq.{drop_at, sets}
use Rattle.laws.specs.Lists.{tab}
use Rattle.laws.proofs.Lists.{length-tab, Filled, filled_more}

-- n places more are filled
pub filled_on : {A : Type 0} {f : ℕ → A} {l : List A} {i : ℕ} {out : List A} (n : ℕ) (g : ℕ → A) (d : A)
    → Filled f l i out → i + n ≤ length l → ((k : ℕ) → k < n → g k ≡ f (i + k)) → Filled f l (i + n) (sets out i (tab n g))
unfolding tab
filled_on zero g d h b e = rw add-zero h
filled_on {f = f} {i = i} (suc n) g d h b e =
    let first = filled_more (g 0) d h (omega arith) (e 0 (omega arith) ∙ ap f (add-zero i)) in
    rw (add-suc i n, ← suc-add i n) (filled_on n (λ k. g (suc k)) d (rw add-one at first) (omega arith) (λ k l. e (suc k) (omega arith) ∙ ap f (omega arith)))

-- what is filled up to place m, as the start of what fills the rest
pub filled_from : {A : Type 0} (m : ℕ) (f : ℕ → A) (l out : List A) → out ≡ tab m f ++ drop m l → Filled f out m out
filled_from {A} m f l out e = record {
  room = refl;
  holds = e ∙ ap (λ (r : List A). tab m f ++ r) (sym (ap (drop m) e ∙ drop_at (tab m f) (drop m l) m (length-tab m f)));
}
