-- What proofs need of a configuration: one computed test over the list of all, and a law at each. Assumes nothing.
use mathlib.Core.Path.{◌≡◌, sym, subst}
use mathlib.Core.Bool.{Bool, true, false, ◌&&◌}
use mathlib.Core.List.{List, [], ◌∷◌}
use Prim.Native.Nat.{ℕ, zero, suc, ◌-◌, ◌*◌, ◌≤◌, ◌<◌}
use native.Mathlib.Nat.{not-suc-le-zero, le_of_suc-le-suc}
use native.Mathlib.Numerals.{add-one}
use native.Mathlib.Omega.{arith}
use lib.Dec.{T, eqb, leb, ltb, eqb→eq, leb→le, ltb→lt, le→leb}
use lib.ListN.{get_or, length}
use lib.Ieee.Fits.{and_l, and_r}
use Rattle.laws.proofs.Table.{at, every}
use Rattle.config.specs.Tables.{rows, edge_rows}
use Rattle.config.specs.Config.{largest, valid, configs, row, nf, z, ne, nb, rate, duration, upper, half, edges, among, fft_sizes, dct_lengths}
use Rattle.laws.specs.Lists.{Rising}
use Rattle.config.specs.Sound.{AllSound}

abbrev rise : ℕ → List ℕ → ℕ → Bool
rise zero es n = true
rise (suc m) [] n = false
rise (suc m) (x ∷ []) n = false
rise (suc m) (x ∷ y ∷ es) n = ltb x y && leb y n && rise m (y ∷ es) n

step : (m : ℕ) (es : List ℕ) (n : ℕ) → T (rise m es n) → (b : ℕ) → b < m → (get_or es b 0 < get_or es (suc b) 0) × (get_or es (suc b) 0 ≤ n)
step zero es n t b h = absurd (not-suc-le-zero h)
step (suc m) [] n t b h = absurd t
step (suc m) (x ∷ []) n t b h = absurd t
step (suc m) (x ∷ y ∷ es) n t zero h =
    let s = and_l (ltb x y && leb y n) (rise m (y ∷ es) n) t in (ltb→lt x y (and_l (ltb x y) (leb y n) s), leb→le y n (and_r (ltb x y) (leb y n) s))
step (suc m) (x ∷ y ∷ es) n t (suc b) h = step m (y ∷ es) n (and_r (ltb x y && leb y n) (rise m (y ∷ es) n) t) b (le_of_suc-le-suc h)

rises : (m : ℕ) (es : List ℕ) (n : ℕ) → T (rise m es n) → Rising m es n
rises m es n t b h = rw (add-one b) (step m es n t b h)

-- `valid` and `configs` say the same, and the configuration at place c of the list is c
pub valid-lt : (c : ℕ) → T (valid c) → c < length configs
valid-lt c v = let h = leb→le c largest v in omega arith

pub lt-valid : (c : ℕ) → c < length configs → T (valid c)
lt-valid c h = le→leb c largest (omega arith)

config_at : (c : ℕ) → c < length configs → c ≡ get_or configs c 0
config_at c h = eqb→eq c (get_or configs c 0) (at eqb configs tt c h)

-- what a test over the list of configurations says of each
pub each : (f : ℕ → Bool) → T (every (λ k c. f c) 0 configs) → (c : ℕ) → T (valid c) → T (f c)
each f t c v = let h = valid-lt c v in rw (config_at c h) (at (λ k c. f c) configs t c h)

-- the test, each row of `Sound` in its place
abbrev good : ℕ → Bool
good c =
    eqb (nf c) (2 * half c)
    && (ltb 0 (half c)
    && (ltb (2 * z c) (nf c)
    && (leb (nf c) 480
    && (leb (nf c - z c) 300
    && (leb (ne c) (nf c)
    && (ltb 0 (nb c)
    && (leb (nb c) 64
    && (leb (upper c) (nb c)
    && (eqb (nf c * 1000000) (rate c * duration c)
    && (among fft_sizes (half c)
    && (among dct_lengths (nf c)
    && (eqb (length (edges c)) 65
    && (eqb (get_or (edges c) 0 0) 0
    && (eqb (get_or (edges c) (nb c) 0) (ne c) && rise (nb c) (edges c) (ne c)))))))))))))))

test : T (every (λ k c. good c) 0 configs)
unfolding row rows half edges edge_rows fft_sizes dct_lengths
test = tt

pub sound : AllSound
sound c v =
    let t1 : T (good c) = each good test c v in
    let t2 = and_r (eqb (nf c) (2 * half c)) _ t1 in
    let t3 = and_r (ltb 0 (half c)) _ t2 in
    let t4 = and_r (ltb (2 * z c) (nf c)) _ t3 in
    let t5 = and_r (leb (nf c) 480) _ t4 in
    let t6 = and_r (leb (nf c - z c) 300) _ t5 in
    let t7 = and_r (leb (ne c) (nf c)) _ t6 in
    let t8 = and_r (ltb 0 (nb c)) _ t7 in
    let t9 = and_r (leb (nb c) 64) _ t8 in
    let t10 = and_r (leb (upper c) (nb c)) _ t9 in
    let t11 = and_r (eqb (nf c * 1000000) (rate c * duration c)) _ t10 in
    let t12 = and_r (among fft_sizes (half c)) _ t11 in
    let t13 = and_r (among dct_lengths (nf c)) _ t12 in
    let t14 = and_r (eqb (length (edges c)) 65) _ t13 in
    let t15 = and_r (eqb (get_or (edges c) 0 0) 0) _ t14 in
    record {
      even = eqb→eq (nf c) (2 * half c) (and_l (eqb (nf c) (2 * half c)) _ t1);
      half_pos = ltb→lt 0 (half c) (and_l (ltb 0 (half c)) _ t2);
      z_lt = ltb→lt (2 * z c) (nf c) (and_l (ltb (2 * z c) (nf c)) _ t3);
      nf_le = leb→le (nf c) 480 (and_l (leb (nf c) 480) _ t4);
      keep_le = leb→le (nf c - z c) 300 (and_l (leb (nf c - z c) 300) _ t5);
      ne_le = leb→le (ne c) (nf c) (and_l (leb (ne c) (nf c)) _ t6);
      nb_pos = ltb→lt 0 (nb c) (and_l (ltb 0 (nb c)) _ t7);
      nb_le = leb→le (nb c) 64 (and_l (leb (nb c) 64) _ t8);
      upper_le = leb→le (upper c) (nb c) (and_l (leb (upper c) (nb c)) _ t9);
      lasts = eqb→eq (nf c * 1000000) (rate c * duration c) (and_l (eqb (nf c * 1000000) (rate c * duration c)) _ t10);
      fft_size = and_l (among fft_sizes (half c)) _ t11;
      dct_length = and_l (among dct_lengths (nf c)) _ t12;
      edges_65 = eqb→eq (length (edges c)) 65 (and_l (eqb (length (edges c)) 65) _ t13);
      edges_from = eqb→eq (get_or (edges c) 0 0) 0 (and_l (eqb (get_or (edges c) 0 0) 0) _ t14);
      edges_to = eqb→eq (get_or (edges c) (nb c) 0) (ne c) (and_l (eqb (get_or (edges c) (nb c) 0) (ne c)) _ t15);
      rising = rises (nb c) (edges c) (ne c) (and_r (eqb (get_or (edges c) (nb c) 0) (ne c)) _ t15);
    }

-- the edges that code has at hand: the bands end before any m that is no less than the number of coded lines
pub edges_rise : (c n m : ℕ) (es : List ℕ) → T (valid c) → n ≡ nb c → ne c ≤ m → es ≡ edges c → Rising n es m
edges_rise c n m es v p q e =
    subst (λ (l : List ℕ). Rising n l m) (sym e) (λ b h. let r = (sound c v).rising b (omega arith) in (omega arith, omega arith))
