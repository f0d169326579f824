-- The steps of the three loops: a peak, a count of doublings and a least one go on by one place. Assumes nothing.
use Rattle.std.proofs.Common.{◌≡◌, ℕ, suc, ◌+◌, ◌-◌, ◌<◌, ◌≤◌, min, true, false, List, get_or, sym, refl, true≢false, add-one, arith}
use lib.Ieee.{Float, nan, inf, fin, binary64, add, le, is_nan}
use Rattle.against_double.specs.Near.{sum_of, magnitude, larger, peak, doublings, near, least}

pub is_nan_lem : (x : Float) → is_nan x ≡ true → x ≡ nan
unfolding is_nan
is_nan_lem nan e = refl
is_nan_lem (inf s) e = absurd (true≢false (sym e))
is_nan_lem (fin s m k) e = absurd (true≢false (sym e))

pub peak-more : (b : List ℕ) (i : ℕ) → peak b (i + 1) ≡ larger (peak b i) (magnitude (sum_of b i))
unfolding peak
peak-more b i = rw (add-one i)

pub least_more : (xs : List Float) (b : List ℕ) (p : Float) (i : ℕ) → least xs b p (i + 1) ≡ min (least xs b p i) (near (get_or xs i nan) (sum_of b i) p)
unfolding least
least_more xs b p i = rw (add-one i)

less : (n : ℕ) → n < 60 → 60 - n ≡ suc (60 - (n + 1))
less n h = omega arith

-- n doublings are done, and d doubles once more
pub doublings-more : (n : ℕ) (d p : Float) → n < 60 → le (add binary64 d d) p ≡ true → n + doublings (60 - n) d p ≡ n + 1 + doublings (60 - (n + 1)) (add binary64 d d) p
unfolding doublings
doublings-more n d p h e = rw (less n h) (rw e (omega arith))

-- d doubles no more
pub doublings-none : (n : ℕ) (d p : Float) → n < 60 → le (add binary64 d d) p ≡ false → n + doublings (60 - n) d p ≡ n
unfolding doublings
doublings-none n d p h e = rw (less n h) (rw e (omega arith))

-- all are done
pub doublings_all : (n : ℕ) (d p : Float) → n ≤ 60 → 60 ≤ n → n + doublings (60 - n) d p ≡ 60
unfolding doublings
doublings_all n d p h l = rw (done n h l) refl
  where
    done : (n : ℕ) → n ≤ 60 → 60 ≤ n → n ≡ 60
    done n h l = omega arith
