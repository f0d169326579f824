-- What the callees ensure, put together, in the configuration's terms, with the steps' own numbers and with those of a frame of 20 values. Assumes nothing.
use mathlib.Core.Path.{◌≡◌, refl, sym, ap, subst, ◌∙◌}
use mathlib.Core.Bool.{Bool, not, ◌||◌}
use mathlib.Core.List.{List, zip_with}
use Prim.Native.Nat.{ℕ, ◌-◌, ◌*◌, ◌/◌, ◌≤◌, zero-le}
use native.Mathlib.Omega.{arith}
use lib.Dec.{T, eqb, eqb→eq}
use borrow.Author.Tests.{eq-eqb}
use lib.ListN.{length, take, drop}
use lib.Ieee.{Float, binary32, add}
use Rattle.laws.proofs.Table.{every}
use Rattle.config.specs.Tables.{rows}
use Rattle.config.specs.Config.{valid, configs, row, nf, z, half}
use Rattle.config.proofs.Sound.{sound, each}
use Rattle.windows.specs.Windows.{window, Numbers}
use Rattle.windows.proofs.Entries.{window_length, window_numbers}
use Rattle.synthesis_steps.specs.Places.{unfolded, windowed, output, remains}
use Rattle.gains.specs.Gains.{gain, scaled}
use Rattle.synthesis_overlap.specs.Overlap.{spread}
use Rattle.synthesis_steps.proofs.Places.{length-scaled}
use Rattle.synthesis_steps.proofs.Lengths.{whole-output}

-- what the steps ask of a configuration, in h = half c
pub record Asked (c : ℕ) : Type 0 where
  pub small : half c ≤ 240
  pub zeros : z c ≤ half c
  pub window-long : length (window c) ≡ 4 * half c
  pub numbers : Numbers (window c)

pub asked : (c : ℕ) → T (valid c) → Asked c
asked c v =
    let s = sound c v in
    let w = window_length c v in
    record { small = omega arith; zeros = omega arith; window-long = omega arith; numbers = window_numbers c v }

-- what is left in the memory and in the samples
abbrev pub Left : ℕ → List Float → List Float → List Float → List Float → Type 0
Left c past y m s = record { memory : m ≡ remains (nf c) (z c) (spread c y); samples : s ≡ output (nf c) (z c) past (spread c y) }

-- the steps' own gain, h and z in place of the configuration's
module _ (c : ℕ) (v : T (valid c)) {g : Float} {h k : ℕ} {w : List ℕ} (y : List Float) (eg : g ≡ gain (nf c)) (eh : h ≡ half c) (ek : k ≡ z c) (ew : w ≡ window c) where
  twice : 2 * h ≡ nf c
  twice = let s = sound c v in omega arith

  pub with-memory : {m : List Float} → m ≡ remains (2 * h) k (windowed w (unfolded h (scaled g y))) → m ≡ remains (nf c) (z c) (spread c y)
  with-memory e = e ∙ (λ j. remains (twice j) (ek j) (windowed (ew j) (unfolded (eh j) (scaled (eg j) y))))

  pub with-samples : (past : List Float) {s : List Float} → s ≡ output (2 * h) k past (windowed w (unfolded h (scaled g y))) → s ≡ output (nf c) (z c) past (spread c y)
  with-samples past e = e ∙ (λ j. output (twice j) (ek j) past (windowed (ew j) (unfolded (eh j) (scaled (eg j) y))))

-- the numbers of a configuration's frame as a function has them that is of one length: n is nf, and h is half of it
pub halves : (c : ℕ) {n : ℕ} → nf c ≡ n → n / 2 ≡ half c
unfolding half
halves c e = ap (λ (k : ℕ). k / 2) (sym e)

pub record Written (c n h : ℕ) : Type 0 where
  pub frame : nf c ≡ n
  pub points : h ≡ half c
  pub no-zeros : 0 ≡ z c

pub written_15 : Written 15 20 10
unfolding row rows half
written_15 = record { frame = refl; points = refl; no-zeros = refl }

-- the one configuration with a frame of 20 values
abbrev shortest : ℕ → Bool
shortest c = not (eqb (nf c) 20) || eqb c 15

shortest_test : T (every (λ k c. shortest c) 0 configs)
unfolding row rows
shortest_test = tt

pub only_15 : (c : ℕ) → T (valid c) → nf c ≡ 20 → c ≡ 15
only_15 c v e =
    let t : T (shortest c) = each shortest shortest_test c v in
    eqb→eq c 15 (rw (eq-eqb (nf c) 20 e) at t)

module _ (c : ℕ) (v : T (valid c)) {n h : ℕ} (e : Written c n h) where
  -- what the steps ask, of the values y scaled to b
  pub fits : (past y : List Float) (g : Float) {b : List Float} {w : List ℕ} → length past ≡ nf c - z c → length y ≡ nf c → w ≡ window c → b ≡ scaled g y
      → (h ≤ 240) × (0 ≤ h) × (length b ≡ 2 * h) × (length w ≡ 4 * h) × Numbers w × (length past ≡ 2 * h - 0) × (length y ≡ 2 * h - 0)
  fits past y g m s ew eb =
      let q = asked c v in
      let t = sound c v in
      let l : length y ≡ 2 * h = omega arith in
      (omega arith, zero-le, ap length eb ∙ length-scaled g y ∙ l, ap length ew ∙ omega arith, rw ew q.numbers, omega arith, omega arith)

  -- and what they leave
  pub written_is : (past y : List Float) {g : Float} {b : List Float} {w : List ℕ} {m s : List Float} → g ≡ gain n → w ≡ window c → b ≡ scaled g y
      → m ≡ remains (2 * h) 0 (windowed w (unfolded h b)) → s ≡ zip_with (add binary32) past (take (2 * h - 0) (drop 0 (windowed w (unfolded h b))))
      → Left c past y m s
  written_is past y {w = w} eg ew eb em es =
      let f = eg ∙ ap gain (sym e.frame) in
      record {
        memory = with-memory c v y f e.points e.no-zeros ew (em ∙ ap (λ (r : List Float). remains (2 * h) 0 (windowed w (unfolded h r))) eb);
        samples = with-samples c v y f e.points e.no-zeros ew past (es ∙ whole-output (2 * h) past _ ∙ ap (λ (r : List Float). output (2 * h) 0 past (windowed w (unfolded h r))) eb);
      }

-- the same of a configuration that is 15
module _ (c : ℕ) (is : c ≡ 15) (past y : List Float) (m : length past ≡ nf c - z c) (s : length y ≡ nf c) {w : List ℕ} (ew : w ≡ window 15) where
  pub fits_15 : (g : Float) {b : List Float} → b ≡ scaled g y
      → (10 ≤ 240) × (0 ≤ 10) × (length b ≡ 20) × (length w ≡ 40) × Numbers w × (length past ≡ 20) × (length y ≡ 20)
  fits_15 g eb = fits 15 tt written_15 past y g (m ∙ ap (λ (k : ℕ). nf k - z k) is) (s ∙ ap nf is) ew eb

  pub left_15 : {g : Float} {b m s : List Float} → g ≡ gain 20 → b ≡ scaled g y
      → m ≡ remains 20 0 (windowed w (unfolded 10 b)) → s ≡ zip_with (add binary32) past (take 20 (drop 0 (windowed w (unfolded 10 b))))
      → Left c past y m s
  left_15 {m = m'} {s = s'} eg eb em es = subst (λ (k : ℕ). Left k past y m' s') (sym is) (written_is 15 tt written_15 past y eg ew eb em es)
