-- Document 02 §2: what bands are ranked by, and the edges of its sentences, most of them by computation. Assumes nothing.
use Prim.Native.Nat.{ℕ, ◌+◌, ◌-◌, ◌*◌, ◌^◌, ◌≤◌, ◌<◌}
use native.Mathlib.Nat.{le_of_eq, mul-one, mul_right_comm}
use native.Mathlib.Omega.{arith}
use mathlib.Core.Path.{◌≡◌, refl, sym, ap, ◌∙◌}
use mathlib.Core.Logic.{⊎_elim}
use mathlib.Core.Bool.{Bool, true, false, true≢false}
use mathlib.Core.List.{List}
use lib.Dec.{T, leb, leb→le, lit<, lit≤}
use lib.IntN.{pos}
use lib.ListN.{length, get_or, drop, length-drop}
use lib.Seq.{length-take-le}
use lib.Ieee.{Float, nan, inf, fin, binary32, up, down, of_bits, of_int, of_fields, odd, units, round, mul, lt, fits}
use lib.Ieee.Exact.{HasValue}
use lib.Count.{count_trailing_zeros}
use Rattle.laws.specs.Lists.{tab, first}
use Rattle.laws.specs.Passes.{passes6, passes7}
use Rattle.laws.specs.Greatest.{best}
use Rattle.laws.proofs.Bools.{outcomes}
use Rattle.laws.proofs.Lists.{length-tab}
use Rattle.laws.proofs.Table.{at, every}
use Rattle.config.specs.Tables.{rows, edge_rows}
use Rattle.config.specs.Config.{valid, configs, row, nf, nb, edges}
use Rattle.config.proofs.Sound.{sound, each}
use Rattle.measurement_steps.specs.Energy.{band_of, energies}
use Rattle.measurement.specs.Measurement.{energies_of}
use Rattle.bounds.specs.Within.{Within, Each}
use Rattle.bounds.specs.Size.{Size}
use Rattle.bounds.proofs.Bound.{more, sized, product as product-size}
use Rattle.bounds.proofs.Lists.{each-tab, each_at, each_weaken}
use Rattle.bounds.proofs.Energies.{energies-bound}
use Rattle.bounds.proofs.Samples.{six-within, size_finite}
use Rattle.loudest.specs.Loudest.{width, product, products, silent, loudest, heard}
use Rattle.loudest.proofs.Products.{times_zero, zero-times}
use Rattle.loudest.proofs.Rank.{bands, as_f32}
use Rattle.promises.specs.NoOverflow.{Finite}
use Rattle.promises.specs.Loudest.{Ranking}

module _ (c : ℕ) (v : T (valid c)) (b : ℕ) (h : b < nb c) where
  lines : (l : List Float) → length l ≡ nf c → width (edges c) b ≡ length (band_of (edges c) l b)
  unfolding band_of
  lines l n = sym (length-take-le (width (edges c) b) (drop (get_or (edges c) b 0) l) (omega (arith, n, length-drop (get_or (edges c) b 0) l, (sound c v).rising b h, (sound c v).ne_le)))

  exact : HasValue (of_int binary32 (pos (width (edges c) b))) false (width (edges c) b) 1
  exact = as_f32 (edges c) (nb c) (bands c v) b h

  same_zero : (l : List Float) → T (fits binary32 (get_or l b nan)) → passes7 (get_or l b nan) ≡ true → silent (product (edges c) l b) ≡ silent (get_or l b nan)
  same_zero l f p =
      let x = get_or l b nan in
      ⊎_elim
      (λ z. times_zero x _ _ exact z ∙ sym z)
      (λ n. ⊎_elim (λ z. absurd (true≢false (sym (zero-times x _ _ exact (omega (arith, bands c v b h)) f p z) ∙ n))) (λ z. z ∙ sym n) (outcomes (silent (product (edges c) l b))))
      (outcomes (silent x))

-- ---- products that are finite
-- no band of a configuration has more than 64 lines: from the edge e at place k to the next
abbrev slim : ℕ → ℕ → ℕ → Bool
slim c k e = leb (get_or (edges c) (k + 1) 0 - e) 64

test : T (every (λ i c. every (slim c) 0 (edges c)) 0 configs)
unfolding edges edge_rows
test = tt

-- a number is as large as its value
whole_size : (n : ℕ) (x : Float) → HasValue x false n 1 → Size 149 n x
whole_size n nan v = absurd v
whole_size n (inf s) v = absurd v
whole_size n (fin s m e) v = record { fact = le_of_eq (ap (λ (k : ℕ). k * 2 ^ 149) (sym (mul-one (m * up e)) ∙ v.1) ∙ mul_right_comm n (down e) (2 ^ 149)) }

module _ (c : ℕ) (v : T (valid c)) where
  few : (b : ℕ) → b < nb c → width (edges c) b ≤ 64
  few b h = leb→le (width (edges c) b) 64 (at (slim c) (edges c) (each (λ i. every (slim i) 0 (edges i)) test c v) b (omega (arith, (sound c v).edges_65, (sound c v).nb_le)))

  -- 2 ^ 121 times 64 is below the greatest f32
  finite-product : (b : ℕ) → b < nb c → (x : Float) → Within (2 ^ 121) 1 x → Finite (mul binary32 x (of_int binary32 (pos (width (edges c) b))))
  finite-product b h x w = size_finite {k = 270} _ (product-size (record { few = lit< tt; low = lit< tt }) refl (sized 121 x w) (more 64 (few b h) (whole_size (width (edges c) b) _ (exact c v b h))))

  finite-products : (l : List Float) → length l ≡ nf c → Each (λ x. T (passes6 x)) l → Each Finite (products (edges c) (energies_of c l))
  unfolding products energies_of energies
  finite-products l n a =
      let es = energies_of c l in
      let n-is : length es ≡ nb c = length-tab (nb c) _ in
      each-tab (length es) _ (λ b h. finite-product b (omega (arith, n-is)) (get_or es b nan) (each_at nan b (energies-bound 60 (lit≤ tt) c v l n (each_weaken six-within a)) h).1)

-- THE STATEMENT
pub ranking : Ranking
unfolding heard loudest products best silent passes7 first tab row rows edges edge_rows of_bits of_fields of_int count_trailing_zeros odd units round mul lt
ranking =
    record {
      lines = λ c v l n b h. lines c v b h l n;
      exact = exact;
      zero = λ c v l b h f p. same_zero c v b h l f p;
      smallest = refl;
      zeros = refl;
      overflow = refl;
      two_infinities = refl;
      never_infinite = finite-products;
      config_first = λ l. refl;
      sixty = refl;
      sixty_four = refl;
      length_first = refl;
      two_nans = refl;
    }
