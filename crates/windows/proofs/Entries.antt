-- Every entry of every window is finite and at most 2 in magnitude, so never a NaN: one computed test over the table of all, and a law at each
-- entry of a configuration's window. A window has 2 nf entries: one computed test over the configurations. Assumes nothing.
use mathlib.Core.Path.{◌≡◌, subst}
use mathlib.Core.Bool.{Bool, not}
use Prim.Native.Nat.{ℕ, ◌+◌, ◌*◌, ◌<◌, ◌≤◌}
use native.Mathlib.Omega.{arith}
use lib.Dec.{T, leb, leb→le}
use lib.ListN.{get_or, length, length-take, length-drop}
use lib.Seq.{get_or-take, get_or-drop}
use lib.Ieee.{Float, nan, inf, fin, binary32, of_bits, of_fields, odd, nan_bits, is_nan}
use lib.Ieee.Bits.{nan_bits_is}
use lib.Count.{count_trailing_zeros}
use Rattle.laws.proofs.Table.{at, every}
use Rattle.config.specs.Tables.{rows}
use Rattle.config.specs.Config.{valid, configs, row, nf}
use Rattle.config.proofs.Sound.{each}
use Rattle.windows.specs.Tables.{entries}
use Rattle.windows.specs.Windows.{start, window, small, Numbers}
use Rattle.windows.specs.Rule.{Rule}

abbrev is_small : ℕ → ℕ → Bool
is_small k x = small (of_bits binary32 x)

test : T (every is_small 0 entries)
unfolding entries small of_bits of_fields odd count_trailing_zeros
test = tt

-- the window of the configuration lies within the table
abbrev lies : ℕ → Bool
lies c = leb (start c + 2 * nf c) (length entries)

lie_test : T (every (λ k c. lies c) 0 configs)
unfolding row rows start entries
lie_test = tt

within : (c : ℕ) → T (valid c) → start c + 2 * nf c ≤ length entries
within c v = leb→le (start c + 2 * nf c) (length entries) (each lies lie_test c v)

pub window_length : (c : ℕ) → T (valid c) → length (window c) ≡ 2 * nf c
unfolding window
window_length c v = let h = within c v in simp (length-take, length-drop) (omega arith)

entry_at : (c k : ℕ) → k < 2 * nf c → get_or (window c) k 0 ≡ get_or entries (start c + k) 0
unfolding window
entry_at c k h = rw (get_or-take, get_or-drop)

window_small : (c : ℕ) → T (valid c) → (k : ℕ) → k < 2 * nf c → T (small (of_bits binary32 (get_or (window c) k 0)))
window_small c v k h =
    let w = within c v in
    rw (entry_at c k h) (at is_small entries test (start c + k) (omega arith))

-- what is small is a number
number : (x : Float) → T (small x) → T (not (is_nan x))
unfolding small is_nan
number nan t = t
number (inf s) t = tt
number (fin s m e) t = tt

window-number : (c : ℕ) → T (valid c) → (k : ℕ) → k < 2 * nf c → T (not (nan_bits binary32 (get_or (window c) k 0)))
window-number c v k h = rw (nan_bits_is binary32 (get_or (window c) k 0)) (number (of_bits binary32 (get_or (window c) k 0)) (window_small c v k h))

pub window_numbers : (c : ℕ) → T (valid c) → Numbers (window c)
window_numbers c v k h = window-number c v k (subst (λ (n : ℕ). k < n) (window_length c v) h)

pub rule : Rule
rule = record { window_length = window_length; window_small = window_small; window_numbers = window_numbers }
