-- Products of energies that pass 7 can be ranked; where the greatest of them is zero, and only there, all energies are. Assumes nothing.
use mathlib.Core.Path.{◌≡◌, refl, sym, ap, ◌∙◌, subst}
use mathlib.Core.Logic.{⊎_elim}
use mathlib.Core.Bool.{true, false, true≢false}
use mathlib.Core.List.{List}
use Prim.Native.Nat.{ℕ, ◌*◌, ◌≤◌, ◌<◌}
use native.Mathlib.Nat.{le_trans, zero-mul, mul-pos, eq-zero-or-pos}
use native.Mathlib.Omega.{arith}
use lib.Dec.{T, ltb, eqb, lit≤}
use lib.ListN.{length, get_or}
use lib.IntN.{pos}
use lib.Ieee.{Float, nan, inf, fin, binary32, lt, up, down, of_int, fits}
use lib.Ieee.Bits.{is_true}
use mir.Syntax.{w32}
use mir.Val.{to_z}
use mir.ValLaws.{to_z_pos}
use lib.Ieee.Fits.{up_pos}
use lib.Ieee.Exact.{HasValue}
use borrow.Author.Tests.{eq-eqb, ne_eqb, lt-ltb, eqb-true, ltb-true}
use Rattle.laws.proofs.Bools.{outcomes, holds}
use Rattle.laws.specs.Lists.{first, Rising}
use Rattle.laws.specs.Passes.{passes7, ranked}
use Rattle.laws.proofs.Lists.{length-tab, get_or-tab, first-none, first_all}
use Rattle.laws.proofs.Order.{above}
use Rattle.laws.proofs.Whole.{whole-value}
use Rattle.laws.specs.Greatest.{First, best}
use Rattle.laws.proofs.Greatest.{best-first, best-most}
use Rattle.config.specs.Config.{valid, nb, edges}
use Rattle.config.proofs.Sound.{sound, edges_rise}
use Rattle.loudest.specs.Loudest.{width, product, products, silent, loudest}
use Rattle.loudest.specs.declared.Loudest.TheVariants.{Quiet, Loud}
use Rattle.loudest.proofs.Products.{times-ranked, times_zero, zero-times}

-- ---- quiet
abbrev none : Float
none = fin false 0 (pos 0)

-- what can be ranked and is not above zero is a zero
silent_is : (x : Float) → T (ranked x) → lt none x ≡ false → silent x ≡ true
unfolding silent lt
silent_is nan p h = absurd p
silent_is (inf true) p h = absurd p
silent_is (inf false) p h = absurd (true≢false h)
silent_is (fin true m e) p h = is_true (eqb m 0) p
silent_is (fin false m e) p h =
    ⊎_elim (λ z. eq-eqb m 0 z)
    (λ q. absurd (true≢false (sym (lt-ltb 0 (m * up e * 1) (mul-pos (mul-pos q (up_pos e)) (omega arith))) ∙ ap (λ (n : ℕ). ltb n (m * up e * 1)) (sym (zero-mul (down e))) ∙ h)))
    (eq-zero-or-pos m)

-- a zero is not above zero
not_above : (x : Float) → silent x ≡ true → lt none x ≡ true → ⊥
unfolding silent lt
not_above nan p h = true≢false (sym p)
not_above (inf s) p h = true≢false (sym p)
not_above (fin true m e) p h = true≢false (sym h)
not_above (fin false m e) p h =
    let z : m * up e * 1 ≡ 0 = ap (λ (n : ℕ). n * up e * 1) (eqb-true m 0 p) ∙ rw zero-mul in
    let u : 0 * down e < m * up e * 1 = ltb-true (0 * down e) (m * up e * 1) h in
    omega arith

-- ---- the products of energies, in bands with the edges es
pub product_at : (es : List ℕ) (l : List Float) (k : ℕ) → k < length l → get_or (products es l) k nan ≡ product es l k
unfolding products
product_at es l k h = get_or-tab (length l) (product es l) nan k h

-- those of a configuration are of 480 lines at most
pub bands : (c : ℕ) → T (valid c) → Rising (nb c) (edges c) 480
bands c v = edges_rise c (nb c) 480 (edges c) v refl (omega (arith, (sound c v).ne_le, (sound c v).nf_le)) refl

-- so a width is itself as an i32 and as an f32
module _ (es : List ℕ) (n : ℕ) (rise : Rising n es 480) (k : ℕ) (h : k < n) where
  pub few : width es k ≤ 480
  few = omega (arith, rise k h)

  pub as_i32 : to_z w32 (width es k) ≡ pos (width es k)
  as_i32 = to_z_pos w32 (width es k) (omega (arith, few))

  pub as_f32 : HasValue (of_int binary32 (pos (width es k))) false (width es k) 1
  as_f32 = whole-value (width es k) (le_trans few (lit≤ tt))

-- where they pass 7
module _ (es : List ℕ) (l : List Float) (rise : Rising (length l) es 480) (all : first passes7 l ≡ length l) where
  pass_at : (k : ℕ) → k < length l → passes7 (get_or l k nan) ≡ true
  pass_at k h = first_all passes7 l nan all k h

  length-products : length (products es l) ≡ length l
  unfolding products
  length-products = length-tab (length l) (product es l)

  ranked_all : (k : ℕ) → k < length (products es l) → T (ranked (get_or (products es l) k nan))
  ranked_all k h =
      let b : k < length l = omega (arith, length-products) in
      rw (product_at es l k b) (times-ranked (get_or l k nan) _ (width es k) (as_f32 es (length l) rise k b) (pass_at k b))

  -- the scan's band is the first with the greatest product
  pub scanned : 0 < length l → First (products es l) (best (products es l) (length l))
  scanned some = subst (λ (n : ℕ). First (products es l) (best (products es l) n)) length-products (best-first (products es l) ranked_all (omega (arith, length-products)))

  inside : 0 < length l → best (products es l) (length l) < length l
  inside some = omega (arith, (scanned some).inside, length-products)

  ranked-at : (k : ℕ) → k < length l → T (ranked (get_or (products es l) k nan))
  ranked-at k h = ranked_all k (omega (arith, length-products))

  most : 0 < length l → (k : ℕ) → k < length l → lt (get_or (products es l) (best (products es l) (length l)) nan) (get_or (products es l) k nan) ≡ false
  most some k h = subst (λ (n : ℕ). lt (get_or (products es l) (best (products es l) n) nan) (get_or (products es l) k nan) ≡ false) length-products (best-most (products es l) ranked_all (omega (arith, length-products)) k (omega (arith, length-products)))

  -- above zero: so the energy there is no zero
  loud_is : 0 < length l → lt none (get_or (products es l) (best (products es l) (length l)) nan) ≡ true → first silent l ≡ length l → ⊥
  loud_is some h e =
      let b = best (products es l) (length l) in
      let i = inside some in
      not_above (get_or (products es l) b nan) (rw (product_at es l b i) (times_zero (get_or l b nan) _ (width es b) (as_f32 es (length l) rise b i) (first_all silent l nan e b i))) h

  -- not above zero: so no product is, and every energy that an f32 holds is a zero
  quiet_is : 0 < length l → ((k : ℕ) → T (fits binary32 (get_or l k nan))) → lt none (get_or (products es l) (best (products es l) (length l)) nan) ≡ false → first silent l ≡ length l
  quiet_is some f32s h = sym (first-none silent l nan each)
    where
      not-over : (k : ℕ) → k < length l → lt none (get_or (products es l) k nan) ≡ false
      not-over k u = ⊎_elim (λ t. absurd (true≢false (sym (is_true _ (above none (get_or (products es l) (best (products es l) (length l)) nan) (get_or (products es l) k nan) tt (ranked-at (best (products es l) (length l)) (inside some)) (ranked-at k u) h (holds t))) ∙ most some k u))) (λ f. f) (outcomes (lt none (get_or (products es l) k nan)))

      each : (k : ℕ) → k < length l → silent (get_or l k nan) ≡ true
      each k u =
          let w = rise k u in
          zero-times (get_or l k nan) (of_int binary32 (pos (width es k))) (width es k) (as_f32 es (length l) rise k u) (omega (arith, w)) (f32s k) (pass_at k u)
          (rw (← product_at es l k u) (silent_is (get_or (products es l) k nan) (ranked-at k u) (not-over k u)))

-- ---- the answer at the configuration c, from es, which are its edges
module _ (c : ℕ) (l : List Float) (es : List ℕ) (v : T (valid c)) (n : length l ≡ nb c) (e : es ≡ edges c) where
  -- what the scan asks: a band, an edge more than bands, and that they rise
  pub asked : (0 < length l) × (length l < length es) × Rising (length l) es 480
  asked = (omega (arith, n, (sound c v).nb_pos), omega (arith, n, ap length e, (sound c v).edges_65, (sound c v).nb_le), rw (e, n) (bands c v))

  -- by the scan's band b, whose product is x
  module _ (all : first passes7 l ≡ length l) (b : ℕ) (x : Float) (eb : b ≡ best (products es l) (length l)) (ex : x ≡ product es l b) where
    pub within : b < length l
    within = rw eb (inside es l asked.2 all asked.0)

    value : x ≡ get_or (products es l) (best (products es l) (length l)) nan
    value = ex ∙ sym (product_at es l b within) ∙ ap (λ (k : ℕ). get_or (products es l) k nan) eb

    pub loud-answer : lt none x ≡ true → Loud b x ≡ loudest c l
    unfolding loudest
    loud-answer h = rw (← e, ne_eqb (first silent l) (length l) (loud_is es l asked.2 all asked.0 (rw value at h))) (λ j. Loud (eb j) (value j))

    pub quiet-answer : ((k : ℕ) → T (fits binary32 (get_or l k nan))) → lt none x ≡ false → Quiet ≡ loudest c l
    unfolding loudest
    quiet-answer f32s h = rw (eq-eqb (first silent l) (length l) (quiet_is es l asked.2 all asked.0 f32s (rw value at h)))
