-- The parts of FFT twiddles that are 0 on paper: the imaginary parts at no turn and at half a turn, the real parts at a quarter and at
-- three quarters. Definitions only.
use Rattle.std.specs.Prelude.{◌≡◌, Bool, true, false, cond, ◌&&◌, List, [], ◌∷◌, map, ℕ, ◌+◌, ◌*◌, ◌/◌, ◌%◌, T, eqb, get_or}
use Rattle.std.specs.Float.{binary32}
use Rattle.std.specs.Float.Ieee.{of_bits}
use Rattle.config.specs.Config.{among}
use Rattle.twiddles.specs.Tables.{sizes, fft_re_bits, fft_im_bits}
use Rattle.twiddles.specs.Twiddles.{start}
use Rattle.twiddles.specs.Circle.{tiny}

-- the bits of these parts at size n: no turn and half a turn; then a quarter and three quarters, where 4 divides n
unfoldable pub turn_bits : ℕ → List ℕ
turn_bits n =
    let re : ℕ → ℕ = λ k. get_or fft_re_bits (start n + k) 0 in
    let im : ℕ → ℕ = λ k. get_or fft_im_bits (start n + k) 0 in
    im 0 ∷ im (n / 2) ∷ cond (eqb (n % 4) 0) (re (n / 4) ∷ re (3 * n / 4) ∷ []) []

-- what the Rust computes for them, a row for each size: "Forward twiddle 0 has imaginary part -0.0 in the Rust",
-- "A quarter-turn twiddle's real part is tiny and not 0"
unfoldable pub rust_turns : List (List ℕ)
rust_turns =
    (0x80000000 ∷ 0xa50d3132 ∷ []) ∷
    (0x80000000 ∷ 0xa50d3132 ∷ 0x248d3132 ∷ 0xa553c9ca ∷ []) ∷
    (0x80000000 ∷ 0xa6234c4c ∷ []) ∷
    (0x80000000 ∷ 0xa50d3132 ∷ 0x248d3132 ∷ 0xa553c9ca ∷ []) ∷
    (0x80000000 ∷ 0xa6234c4c ∷ 0x25a34c4c ∷ 0xa553c9ca ∷ []) ∷
    (0x80000000 ∷ 0xa50d3132 ∷ 0x248d3132 ∷ 0xa553c9ca ∷ []) ∷
    (0x80000000 ∷ 0xa50d3132 ∷ []) ∷
    (0x80000000 ∷ 0xa6234c4c ∷ 0x25a34c4c ∷ 0xa553c9ca ∷ []) ∷
    (0x80000000 ∷ 0xa50d3132 ∷ 0x248d3132 ∷ 0xa553c9ca ∷ []) ∷
    (0x80000000 ∷ 0xa50d3132 ∷ 0x248d3132 ∷ 0xa553c9ca ∷ []) ∷
    (0x80000000 ∷ 0xa6234c4c ∷ 0x25a34c4c ∷ 0xa553c9ca ∷ []) ∷
    []

-- every number of the list is tiny and not 0
abbrev pub all_tiny : List ℕ → Bool
all_tiny [] = true
all_tiny (b ∷ bs) = tiny (of_bits binary32 b) && all_tiny bs

-- -0.0, and after it tiny parts alone
abbrev pub minus_zero_then_tiny : List ℕ → Bool
minus_zero_then_tiny [] = false
minus_zero_then_tiny (b ∷ bs) = eqb b 0x80000000 && all_tiny bs

pub record Turns : Type 0 where
  -- at each size these parts have the bits that the Rust computes
  pub turns_are : map turn_bits sizes ≡ rust_turns
  -- at each size the imaginary part at no turn is -0.0, and the parts at half a turn, and at a quarter and three quarters where there are such, are tiny and not 0
  pub turns_tiny : (n : ℕ) → T (among sizes n) → T (minus_zero_then_tiny (turn_bits n))
