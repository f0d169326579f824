-- Each end of a step is the definition's: no room, the last line, a call. Assumes nothing.
use mathlib.Core.Path.{◌≡◌, sym, ap, ◌∙◌}
use mathlib.Core.List.{List}
use Prim.Native.Nat.{ℕ, ◌≤◌, ◌<◌}
use lib.Dec.{eqb}
use lib.ListN.{length, get_or, take}
use borrow.Author.Tests.{ne_eqb, lt-ltb, le-ltb}
use Rattle.call_text.specs.Page.{Page, page, written}
use Rattle.call_made.specs.declared.Bench.{Bench}
use Rattle.call_made.specs.Made.{made}
use Rattle.replay.specs.Steps.{made_text, last_text, taken_of, used_of, bench_after, text_of, stepped}

-- the channels and the answer after a call
pub after_call : (s : Bench) (b : List ℕ) {n kind : ℕ} {next : Bench} → (n ≡ 0 → ⊥) → kind ≡ get_or b 0 0 → next ≡ made s kind (take n b) → next ≡ bench_after s b n
unfolding bench_after
after_call s b {n = n} z ek en = rw (ne_eqb n 0 z) (en ∙ ap (λ (k : ℕ). made s k (take n b)) ek)

module _ (s : Bench) (b out : List ℕ) (at count : ℕ) where
  -- what a step uses, and the output after it, p
  abbrev Ends : ℕ → Page → Type 0
  Ends n p = (n ≡ used_of b out at) × (p ≡ stepped s b out at count)

  pub no_room : length out ≤ at → Ends 0 (page out at)
  unfolding used_of stepped
  no_room h = (rw (le-ltb at (length out) h), rw (le-ltb at (length out) h))

  -- with room, n bytes taken
  module _ (h : at < length out) {n : ℕ} (e : n ≡ taken_of b) {p : Page} where
    ends : p ≡ written (page out at) (text_of s b count n) → Ends n p
    unfolding used_of stepped
    ends ep = rw (lt-ltb at (length out) h) (e, ep ∙ ap (λ (m : ℕ). written (page out at) (text_of s b count m)) e)

    pub last_line : n ≡ 0 → p ≡ written (page out at) (last_text (eqb (length b) 0) count) → Ends 0 p
    unfolding text_of
    last_line z ep =
        let x = ends (ep ∙ ap (λ (m : ℕ). written (page out at) (text_of s b count m)) (sym z)) in
        (sym z ∙ x.0, x.1)

    pub a_call : (n ≡ 0 → ⊥) → {next : Bench} {kind : ℕ} → kind ≡ get_or b 0 0 → next ≡ bench_after s b n → p ≡ written (page out at) (made_text count kind next) → Ends n p
    unfolding text_of
    a_call z ek en ep = ends (rw (ne_eqb n 0 z) (ep ∙ (λ j. written (page out at) (made_text count (ek j) (en j)))))
