-- The energy of a band of lines that are at most 2 ^ k: n shares, each of at most 2 ^ (2 k) / n, come to 2 ^ (2 k + 1) at most, and the sign stays plus. Assumes nothing.
use mathlib.Core.Path.{◌≡◌, refl, sym, ap, ◌∙◌, subst}
use mathlib.Core.Bool.{Bool, true, false, cond, true≢false}
use mathlib.Core.List.{List, [], ◌∷◌}
use Prim.Native.Nat.{ℕ, suc, ◌+◌, ◌-◌, ◌*◌, ◌/◌, ◌^◌, ◌≤◌, ◌<◌}
use native.Mathlib.Nat.{le_trans, le_of_eq, lt_of_le_of_lt, zero-mul, mul-one, one-mul, mul_comm, add-zero, zero-add, add-mul, add_assoc, add_comm, suc-mul, le-add_right, mul-le-mul_left, mul-le-mul_right, mul_right_comm, mod-lt, div-add-mod'}
use native.Mathlib.Omega.{arith}
use lib.IntN.{pos}
use lib.Dec.{T, eqb, lt→ltb, lit<, lit≤}
use lib.Pow.{pow-add, pow-lt}
use lib.ListN.{length, get_or, take, drop, length-take, length-drop}
use lib.Ieee.{Float, nan, inf, fin, binary32, up, down, round, sum, add, mul, div, of_int, of_bits}
use Rattle.laws.specs.Numbers.{zero32}
use Rattle.laws.specs.Passes.{passes7}
use Rattle.laws.proofs.Sign.{Plus, round_plus}
use Rattle.config.specs.Config.{valid, nf, nb, edges}
use Rattle.config.proofs.Sound.{sound}
use Rattle.measurement_steps.specs.Energy.{sum_of, share, energy, band_of, energies}
use Rattle.measurement.specs.Measurement.{energies_of}
use Rattle.bounds.specs.Within.{Within, Each, none, also}
use Rattle.bounds.specs.Size.{Size}
use Rattle.bounds.proofs.Bound.{Room, room, plus, product, AtLeast, quotient, part_pos, more, raise, plain, sized, zero_size, whole-at-least, whole-plus}
use Rattle.bounds.proofs.Lists.{each_take, each-drop, each-tab}

-- ---- the sign plus goes through squares, quotients and sums
pub square-plus : {k q : ℕ} (x : Float) → Size k q x → Plus (mul binary32 x x)
unfolding mul
square-plus nan h = absurd h.fact
square-plus (inf s) h = absurd h.fact
square-plus (fin true m e) h = round_plus binary32 (m * up e * (m * up e)) (down e * down e)
square-plus (fin false m e) h = round_plus binary32 (m * up e * (m * up e)) (down e * down e)

add-plus : (x y : Float) → Plus x → Plus y → Plus (add binary32 x y)
unfolding add sum
add-plus nan y p q = p
add-plus (inf true) y p q = absurd (true≢false p)
add-plus (inf false) nan p q = q
add-plus (inf false) (inf true) p q = absurd (true≢false q)
add-plus (inf false) (inf false) p q = refl
add-plus (inf false) (fin t n d) p q = refl
add-plus (fin false m e) nan p q = q
add-plus (fin true m e) y p q = absurd (true≢false p)
add-plus (fin false m e) (inf t) p q = q
add-plus (fin false m e) (fin true n d) p q = absurd (true≢false q)
add-plus (fin false m e) (fin false n d) p q = round_plus binary32 (m * up e * down d + n * up d * down e) (down e * down d)

div-plus : {k q : ℕ} (b : ℕ) (x y : Float) → 0 < b → Size k q x → Plus x → Plus y → AtLeast b y → Plus (div binary32 x y)
unfolding div
div-plus b nan y B h p q l = absurd p
div-plus b (inf s) y B h p q l = absurd h.fact
div-plus b (fin true m e) y B h p q l = absurd (true≢false p)
div-plus b (fin false m e) nan B h p q l = absurd q
div-plus b (fin false m e) (inf t) B h p q l = absurd l
div-plus b (fin false m e) (fin true n d) B h p q l = absurd (true≢false q)
div-plus b (fin false m e) (fin false n d) B h p q l = go (eqb n 0) (part_pos b n d B l)
  where
    go : (z : Bool) → (T z → ⊥) → Plus (cond z (cond (eqb m 0) nan (inf false)) (round binary32 false (m * up e * down d) (n * up d * down e)))
    go true w = absurd (w tt)
    go false w = round_plus binary32 (m * up e * down d) (n * up d * down e)

-- what is finite with the sign plus passes 7
passes : {k q : ℕ} (x : Float) → Size k q x → Plus x → T (passes7 x)
unfolding passes7
passes nan h p = p
passes (inf s) h p = absurd h.fact
passes (fin true m e) h p = absurd (true≢false p)
passes (fin false m e) h p = tt

-- ---- sums of shares
record Part (k q : ℕ) (x : Float) : Type 0 where
  size : Size k q x
  sign : Plus x

-- an energy of lines that are at most 2 ^ k
abbrev pub Energy : ℕ → Float → Type 0
Energy k x = T (passes7 x) × Within (2 ^ (2 * k + 1)) 1 x

zero-part : (k q : ℕ) → Part k q zero32
unfolding of_bits
zero-part k q = record { size = zero_size k q; sign = refl }

module _ (k : ℕ) (K : k ≤ 60) where
  -- 2 ^ 16 of these steps are the square of 2 ^ k
  unit : ℕ
  unit = 2 * k + 133

  some : (a : ℕ) → a ≤ 2 ^ 17 → Room unit a
  unfolding unit
  some a h = room (omega arith) (lt→ltb a (2 ^ 24) (lt_of_le_of_lt h (lit< tt)))

  -- of n shares, each of q steps at most
  module _ (n q : ℕ) (N : 0 < n) (most : n ≤ 2 ^ 16) (over : 2 ^ 16 ≤ q * n) (under : q * n ≤ 2 ^ 17) where
    q_some : q ≤ 2 ^ 17
    q_some = le_trans (le_trans (le_of_eq (sym (mul-one q))) (mul-le-mul_left q N)) under

    share_part : (x : Float) → Within (2 ^ k) 1 x → Part unit q (share n x)
    unfolding share unit
    share_part x h =
        let low : 1 * 2 ^ (2 * k + 149) < 2 ^ 277 = subst (λ (m : ℕ). m < 2 ^ 277) (sym (one-mul (2 ^ (2 * k + 149)))) (pow-lt {j = 277} (omega arith)) in
        let two : k + 149 + (k + 149) ≡ 2 * k + 149 + 149 = omega arith in
        let u : Size (k + 149) 1 x = sized k x h in
        let s : Size (2 * k + 149) 1 (mul binary32 x x) = product (record { few = lit< tt; low = low }) two u u in
        let w : AtLeast n (of_int binary32 (pos n)) = whole-at-least n (le_trans most (lit≤ tt)) in
        let split : 2 * k + 149 ≡ 16 + (2 * k + 133) = omega arith in
        let l : 1 * 2 ^ (2 * k + 149) ≤ q * 2 ^ (2 * k + 133) * n =
        le_trans (le_of_eq (one-mul (2 ^ (2 * k + 149)) ∙ ap (λ (m : ℕ). 2 ^ m) split ∙ pow-add 2 16 (2 * k + 133))) (le_trans (mul-le-mul_right (2 ^ (2 * k + 133)) over) (le_of_eq (mul_right_comm q n (2 ^ (2 * k + 133))))) in
        record { size = quotient n (of_int binary32 (pos n)) (some q q_some) N l s w; sign = div-plus n (mul binary32 x x) (of_int binary32 (pos n)) N s (square-plus x u) (whole-plus n) w }

    sum_part : (a : ℕ) (acc : Float) (xs : List Float) → Part unit a acc → Each (Within (2 ^ k) 1) xs → a + length xs * q ≤ 2 ^ 17 → Part unit (2 ^ 17) (sum_of (share n) acc xs)
    sum_part a acc [] p none h = record { size = more (2 ^ 17) (le_trans (le_of_eq (sym (add-zero a) ∙ ap (λ (m : ℕ). a + m) (sym (zero-mul q)))) h) p.size; sign = p.sign }
    sum_part a acc (x ∷ xs) p (also l0 l) h =
        let y = share_part x l0 in
        let h' : a + q + length xs * q ≤ 2 ^ 17 = le_trans (le_of_eq (add_assoc a q (length xs * q) ∙ ap (λ (m : ℕ). a + m) (add_comm q (length xs * q) ∙ sym (suc-mul (length xs) q)))) h in
        sum_part (a + q) (add binary32 acc (share n x)) xs
        (record { size = plus (some (a + q) (le_trans (le-add_right (a + q) (length xs * q)) h')) p.size y.size; sign = add-plus acc (share n x) p.sign y.sign }) l h'

  whole : {x : Float} → Part unit (2 ^ 17) x → Energy k x
  unfolding unit
  whole {x} p =
      let counted : 2 * k + 133 + 17 ≡ 2 * k + 1 + 149 = omega arith in
      (passes x p.size p.sign, plain (2 * k + 1) (subst (λ (m : ℕ). Size m 1 x) counted (raise 1 17 p.size)))

  -- the steps of each of n shares: q where q * n is 2 ^ 16 at least, and twice that at most
  band : (n : ℕ) (xs : List Float) → length xs ≡ n → 0 < n → n ≤ 2 ^ 16 → Each (Within (2 ^ k) 1) xs → Energy k (sum_of (share n) zero32 xs)
  band n xs e N most l =
      let q = 2 ^ 16 / n + 1 in
      let is : q * n ≡ 2 ^ 16 / n * n + n = add-mul (2 ^ 16 / n) 1 n ∙ ap (λ (m : ℕ). 2 ^ 16 / n * n + m) (one-mul n) in
      let over : 2 ^ 16 ≤ q * n = omega (arith, is, div-add-mod' (2 ^ 16) n, mod-lt (2 ^ 16) N) in
      let under : q * n ≤ 2 ^ 17 = omega (arith, is, div-add-mod' (2 ^ 16) n) in
      whole (sum_part n q N most over under 0 zero32 xs (zero-part unit 0) l (le_trans (le_of_eq (zero-add (length xs * q) ∙ ap (λ (m : ℕ). m * q) e ∙ mul_comm n q)) under))

  band-bound : (xs : List Float) → length xs ≤ 2 ^ 16 → Each (Within (2 ^ k) 1) xs → Energy k (energy xs)
  unfolding energy
  band-bound [] most l = whole (zero-part unit (2 ^ 17))
  band-bound (x ∷ xs) most l = band (suc (length xs)) (x ∷ xs) refl (omega arith) most l

  pub energies-bound : (c : ℕ) → T (valid c) → (lines : List Float) → length lines ≡ nf c → Each (Within (2 ^ k) 1) lines → Each (Energy k) (energies_of c lines)
  unfolding energies_of energies band_of
  energies-bound c v lines e a = each-tab (nb c) _ (λ b l. part (get_or (edges c) (b + 1) 0 - get_or (edges c) b 0) (get_or (edges c) b 0))
    where
      short : (n m : ℕ) → length (take n (drop m lines)) ≤ 2 ^ 16
      short n m = simp (length-take, length-drop) (omega (arith, e, (sound c v).nf_le))

      part : (n m : ℕ) → Energy k (energy (take n (drop m lines)))
      part n m = band-bound (take n (drop m lines)) (short n m) (each_take n (each-drop m a))
