-- A packed table has what a transform reads: one law over the plan, and what is true of the sizes alone by a computed test. And the halves of a table.
-- Assumes nothing.
use mathlib.Core.Path.{◌≡◌, sym, ap, ◌∙◌}
use mathlib.Core.Bool.{Bool, true, false, ◌&&◌}
use mathlib.Core.List.{List, [], ◌∷◌, ◌++◌}
use Prim.Native.Nat.{ℕ, suc, ◌+◌, ◌*◌, ◌-◌, ◌/◌, ◌%◌, ◌<◌, ◌≤◌}
use native.Mathlib.Nat.{mul-le-mul_left, mul-le-mul_right, mul-suc, mul_assoc, mul_comm, one-mul, mul-div_cancel_left}
use native.Mathlib.Omega.{arith}
use lib.Dec.{T, eqb, eqb→eq}
use lib.ListN.{length, get_or, take, drop, length-append, get_or-append}
use lib.Seq.{get_or-append-add, get_or_at}
use lib.Ieee.{Float, nan, neg, binary32, of_bits}
use lib.Ieee.Fits.{and_l, and_r}
use Rattle.laws.specs.Lists.{tab}
use Rattle.laws.proofs.Lists.{length-tab, get_or-tab, length-map, get_or-map}
use Rattle.laws.proofs.Sign.{get_or-negs}
use Rattle.laws.proofs.Table.{every}
use Rattle.config.specs.Config.{among, fft_sizes}
use Rattle.config.proofs.Among.{at-among}
use Rattle.complex.specs.declared.Complex.{Complex}
use Rattle.complex.specs.Complex.{parts, at}
use Rattle.quads.specs.Beside.{one32, beside}
use Rattle.quads.proofs.Rows.{col_of, part_of}
use Rattle.kf_work.specs.Work.{plan, span, planned, spectrum}
use Rattle.kf_work.specs.Sized.{Sized}
use Rattle.kf_work.specs.Packed.{after, packed_spectrum, Packed}
use Rattle.kf_work.proofs.Plan.{Split, split, span_positive, plan-cons, whole, inner_positive}
use Rattle.kf_work.proofs.Sizes as plans
use Rattle.twiddles.specs.Tables.{sizes, fft_re_bits}
use Rattle.twiddles.specs.Twiddles.{start, fft_re, fft_im, fft_im_of, twiddle}
use Rattle.twiddles.proofs.Sizes.{same_sizes, sized, Halved, halved, lent_at}
use Rattle.fft_tables.specs.FftTables.{order, read, packed_re, packed_im, packed_im_of, packed_table, packed_lent, plan_lent, AllPacked}

-- a plan with a stage is of 2 or more
span-two : (p : ℕ) (ps : List ℕ) → T (planned (p ∷ ps)) → 2 ≤ span (p ∷ ps)
span-two p ps h =
    let sp = plan-cons (p ∷ ps) h (omega arith) in
    omega (arith, mul-le-mul_right (get_or (p ∷ ps) 1 0) sp.at_least, inner_positive _ _ _ _ sp, whole _ _ _ _ sp)

-- the last place of a table is the last of what is left after a stage
last_place : (p m : ℕ) → 2 ≤ p → 2 ≤ m → m * (p - 1) + (m - 2) ≡ p * m - 2
last_place p m hp hm =
    let all : p * m ≡ m * (p - 1) + m = mul_comm p m ∙ ap (λ (x : ℕ). m * x) (omega arith) ∙ mul-suc m (p - 1) in
    omega arith

module _ (t : ℕ → Complex) (n : ℕ) (still : parts one32 (t 0).i ≡ t 0) where
  -- the table u begins with the plan's twiddles in order, and a third of a turn is its last, where n has a third
  packed : (ps : List ℕ) (s : ℕ) (u : ℕ → Complex) → T (planned ps) → s * span ps ≡ n → ((k : ℕ) → k < length (order ps s) → u k ≡ t (get_or (order ps s) k 0))
      → ((k : ℕ) → 3 * k ≡ n → u (span ps - 2) ≡ t k) → Packed t ps s u
  unfolding Packed order
  packed [] s u h e o third = tt
  packed (p ∷ []) s u h e o third = tt
  packed (p ∷ m ∷ []) s u h e o third = (ap (λ (z : Complex). parts one32 z.i) (o 0 (omega arith)) ∙ still, o 1 (omega arith), o 2 (omega arith))
  packed (p ∷ m ∷ r ∷ ps) s u h e o third = (stands, a_third, packed (r ∷ ps) (s * p) (after u p m) sp.rest-planned left_whole left (λ k e3. ap u left_last ∙ third k e3))
    where
      sp : Split (p ∷ m ∷ r ∷ ps) p m (r ∷ ps)
      sp = split p m (r ∷ ps) h

      reads : ℕ → ℕ
      reads k = suc (k / m) * (k % m * s)

      stage : List ℕ
      stage = tab (m * (p - 1)) reads

      stage-length : length stage ≡ m * (p - 1)
      stage-length = length-tab (m * (p - 1)) reads

      inner_stages : List ℕ
      inner_stages = order (r ∷ ps) (s * p)

      stands : (j q : ℕ) → j < m → suc q < p → beside u m j q ≡ t (suc q * (j * s))
      stands j q l lq =
          let part : suc q ≤ p - 1 = omega arith in
          let inside : j + m * q < m * (p - 1) = omega (arith, mul-le-mul_left m part, mul-suc m q) in
          o (j + m * q) (omega (arith, length-append stage inner_stages, stage-length))
          ∙ ap t (get_or-append stage inner_stages 0 (j + m * q) (omega (arith, stage-length)) ∙ get_or-tab (m * (p - 1)) reads 0 (j + m * q) inside)
          ∙ rw (col_of m j q l, part_of m j q l)

      a_third : p ≡ 3 → u (3 * m - 2) ≡ t (s * m)
      a_third three =
          ap (λ (x : ℕ). u (x * m - 2)) (sym three)
          ∙ third (s * m) (ap (λ (x : ℕ). x * (s * m)) (sym three) ∙ sym (mul_assoc p s m) ∙ ap (λ (x : ℕ). x * m) (mul_comm p s) ∙ mul_assoc s p m ∙ e)

      left_whole : s * p * span (r ∷ ps) ≡ n
      left_whole = ap (λ (x : ℕ). s * p * x) (sym sp.inner) ∙ mul_assoc s p m ∙ e

      left_last : m * (p - 1) + (span (r ∷ ps) - 2) ≡ p * m - 2
      left_last = ap (λ (x : ℕ). m * (p - 1) + (x - 2)) (sym sp.inner) ∙ last_place p m sp.at_least (omega (arith, span-two r ps sp.rest-planned, sp.inner))

      left : (k : ℕ) → k < length inner_stages → after u p m k ≡ t (get_or inner_stages k 0)
      left k l =
          o (m * (p - 1) + k) (omega (arith, length-append stage inner_stages, stage-length))
          ∙ ap t (ap (λ (x : ℕ). get_or (stage ++ inner_stages) (x + k) 0) (sym stage-length) ∙ get_or-append-add stage inner_stages k 0)

-- a table of a size has n - 1 places, and the real part of no turn is 1.0
abbrev fits : ℕ → Bool
fits n = eqb (suc (length (order (plan n) 1))) (n - 1) && eqb (get_or (take n (drop (start n) fft_re_bits)) 0 0) 0x3f800000

test : T (every (λ k n. fits n) 0 sizes)
unfolding sizes start fft_re_bits plan order tab
test = tt

module _ (n : ℕ) (s : T (among fft_sizes n)) where
  of_tables : T (among sizes n)
  of_tables = rw (same_sizes n) at s

  ordered : suc (length (order (plan n) 1)) ≡ n - 1
  ordered = eqb→eq _ _ (and_l (eqb (suc (length (order (plan n) 1))) (n - 1)) _ (at-among fits sizes test n of_tables))

  read_length : length (read n) ≡ n - 1
  unfolding read
  read_length = length-append (order (plan n) 1) _ ∙ omega (arith, ordered)

  first_is_one : get_or (fft_re n) 0 nan ≡ one32
  unfolding fft_re
  first_is_one =
      let bits = take n (drop (start n) fft_re_bits) in
      let first : get_or bits 0 0 ≡ 0x3f800000 = eqb→eq _ _ (and_r (eqb (suc (length (order (plan n) 1))) (n - 1)) _ (at-among fits sizes test n of_tables)) in
      get_or-map (of_bits binary32) bits 0 0 nan (omega (arith, length-map (of_bits binary32) bits, (sized n of_tables).fft-re, ordered)) ∙ ap (of_bits binary32) first

  module _ (inverse : Bool) where
    -- place k is the twiddle that is read there
    places : (k : ℕ) → k < length (read n) → at (packed_re n) (packed_im_of inverse n) k ≡ twiddle n inverse (get_or (read n) k 0)
    unfolding packed_re packed_im packed_im_of twiddle fft_im_of
    places k l = λ z. parts (get_or-map (λ k. get_or (fft_re n) k nan) (read n) k 0 nan l z) (im inverse z)
      where
        plain : get_or (packed_im n) k nan ≡ get_or (fft_im n) (get_or (read n) k 0) nan
        plain = get_or-map (λ k. get_or (fft_im n) k nan) (read n) k 0 nan l

        im : (inverse : Bool) → get_or (packed_im_of inverse n) k nan ≡ get_or (fft_im_of inverse n) (get_or (read n) k 0) nan
        im false = plain
        im true = get_or-negs (packed_im n) k ∙ ap neg plain ∙ sym (get_or-negs (fft_im n) (get_or (read n) k 0))

    pub packs : Packed (twiddle n inverse) (plan n) 1 (at (packed_re n) (packed_im_of inverse n))
    unfolding read twiddle
    packs =
        packed (twiddle n inverse) n (ap (λ (x : Float). parts x (twiddle n inverse 0).i) (sym first_is_one)) (plan n) 1 _
        plan_is.plan_radixes (one-mul (span (plan n)) ∙ plan_is.whole) in_order third
      where
        plan_is : Sized n
        plan_is = plans.sized n s

        in_order : (k : ℕ) → k < length (order (plan n) 1) → at (packed_re n) (packed_im_of inverse n) k ≡ twiddle n inverse (get_or (order (plan n) 1) k 0)
        in_order k l =
            places k (omega (arith, read_length, ordered)) ∙ ap (twiddle n inverse) (get_or-append (order (plan n) 1) _ 0 k l)

        third : (k : ℕ) → 3 * k ≡ n → at (packed_re n) (packed_im_of inverse n) (span (plan n) - 2) ≡ twiddle n inverse k
        third k e =
            let last : length (order (plan n) 1) ≡ span (plan n) - 2 = omega (arith, ordered, plan_is.whole) in
            places (span (plan n) - 2) (omega (arith, read_length, ordered, last))
            ∙ ap (twiddle n inverse) (get_or_at (order (plan n) 1) _ [] 0 (span (plan n) - 2) last ∙ ap (λ (x : ℕ). x / 3) (sym e) ∙ mul-div_cancel_left k (omega arith))

    -- so the transform that reads it is the transform with the twiddles of n
    pub packed_spectrum_lem : (tr ti : List Float) (x : ℕ → Complex) → tr ≡ packed_re n → ti ≡ packed_im_of inverse n
        → packed_spectrum (at tr ti) inverse n x ≡ spectrum (twiddle n inverse) inverse n x
    packed_spectrum_lem tr ti x er ei =
        (λ j. packed_spectrum (at (er j) (ei j)) inverse n x) ∙ plans.unpacked n s (twiddle n inverse) (at (packed_re n) (packed_im_of inverse n)) x inverse packs

  -- a size is 1 at least
  pub some_size : 0 < n
  some_size = let plan_is = plans.sized n s in omega (arith, span_positive (plan n) plan_is.plan_radixes, plan_is.whole)

  pub re-length : length (packed_re n) ≡ n - 1
  unfolding packed_re
  re-length = length-map (λ k. get_or (fft_re n) k nan) (read n) ∙ read_length

  pub im-length : length (packed_im n) ≡ n - 1
  unfolding packed_im
  im-length = length-map (λ k. get_or (fft_im n) k nan) (read n) ∙ read_length

  im_of_length : (inverse : Bool) → length (packed_im_of inverse n) ≡ n - 1
  unfolding packed_im_of
  im_of_length false = im-length
  im_of_length true = length-map neg (packed_im n) ∙ im-length

-- the tables and the plan that are lent at a size
pub fft_halves : (n : ℕ) → T (among fft_sizes n) → (t : List Float) → t ≡ packed_lent n → Halved (n - 1) (packed_re n) (packed_im n) t
unfolding packed_lent packed_table
fft_halves n s t e = halved (n - 1) (packed_re n) (packed_im n) t (e ∙ lent_at n (packed_table n) s) (re-length n s) (im-length n s)

pub plan_at : (n : ℕ) → T (among fft_sizes n) → plan_lent n ≡ plan n
unfolding plan_lent
plan_at n s = lent_at n (plan n) s

pub all_packed : AllPacked
all_packed = packs
