-- What the callees ensure, put together, is the definition of the measurement. Assumes nothing.
use mathlib.Core.Path.{◌≡◌, sym, ap, ap₂, ◌∙◌}
use mathlib.Core.Bool.{Bool, false}
use mathlib.Core.List.{List}
use Prim.Native.Nat.{ℕ, ◌+◌, ◌-◌, ◌≤◌, ◌<◌}
use native.Mathlib.Nat.{zero-add}
use native.Mathlib.Omega.{arith}
use lib.Dec.{T}
use lib.ListN.{length, get_or, take, drop}
use lib.Ieee.{Float}
use borrow.Author.Tests.{le-leb, lt-leb}
use Rattle.laws.specs.Lists.{tab}
use Rattle.laws.proofs.Lists.{tab_ext}
use Rattle.config.specs.Config.{valid, nf, nb, rate, upper, edges}
use Rattle.config.proofs.Sound.{sound}
use Rattle.measurement_steps.specs.Energy.{energy, energies, exceeds}
use Rattle.measurement_steps.specs.Peak.{peaks}
use Rattle.measurement_steps.proofs.Bands.{spaced, lone_energy, lone_place}
use Rattle.measurement.specs.Measurement.{energies_of, peaks_of, flag_of}

-- what is made by the edges at hand is made by the configuration's
pub by_edges : {A : Type 0} (f : ℕ → List ℕ → A) (c : ℕ) {n : ℕ} {es : List ℕ} {out : A} → n ≡ nb c → es ≡ edges c → out ≡ f n es → out ≡ f (nb c) (edges c)
by_edges f c p q h = h ∙ ap₂ f p q

-- as many bands as lines: band b is line b
module _ (c n : ℕ) (l : List Float) (v : T (valid c)) (p : n ≡ nb c) (q : length l ≡ nf c) (e : n ≡ length l) where
  is_line : (b : ℕ) → b ≤ n → get_or (edges c) b 0 ≡ b
  is_line b h =
      let s = sound c v in
      let end = ap (λ (k : ℕ). get_or (edges c) k 0) p ∙ s.edges_to in
      let all = spaced (edges c) 0 n (λ k u. rw zero-add (s.rising k (omega arith)).0) (rw zero-add (omega (arith, end))) b h in
      (rw zero-add at all) ∙ omega (arith, s.edges_from)

  -- so what is made line by line is made band by band, where line b and band b give the same
  by_lines : {A : Type 0} {f g : ℕ → A} {out : List A} → ((b : ℕ) → b ≡ get_or (edges c) b 0 → get_or (edges c) (b + 1) 0 ≡ b + 1 → f b ≡ g b) → out ≡ tab n f → out ≡ tab (nb c) g
  by_lines {g = g} h e = e ∙ tab_ext n _ _ (λ b u. h b (sym (is_line b (omega arith))) (is_line (b + 1) (omega arith))) ∙ ap (λ (m : ℕ). tab m g) p

  pub made_ones : {out : List Float} → out ≡ tab n (λ b. energy (take 1 (drop b l))) → out ≡ energies_of c l
  unfolding energies_of energies
  made_ones = by_lines (λ b. lone_energy (edges c) l b b)

  pub made-own : {out : List ℕ} → out ≡ tab n (λ b. b) → out ≡ peaks_of c l
  unfolding peaks_of peaks
  made-own = by_lines (λ b. lone_place (edges c) l b b)

-- the flag, above 32 kHz and up to it
pub flag_off : (c : ℕ) (es : List Float) → 32000 < rate c → false ≡ flag_of c es
unfolding flag_of
flag_off c es h = simp (lt-leb (rate c) 32000 h)

pub flag_on : (c n u : ℕ) (es : List Float) (f : Bool) → rate c ≤ 32000 → n ≡ nb c → u ≡ upper c → f ≡ exceeds (n - u) es → f ≡ flag_of c es
unfolding flag_of
flag_on c n u es f h p q e = simp (le-leb (rate c) 32000 h) (e ∙ ap₂ (λ (i j : ℕ). exceeds (i - j) es) p q)
