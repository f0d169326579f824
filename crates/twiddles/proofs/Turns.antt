-- The parts of FFT twiddles that are 0 on paper have the Rust's bits: -0.0 at no turn, and elsewhere tiny and not 0, where neither the circle nor
-- the product sees a difference. Computed over all sizes, and a law at each. Assumes nothing.
use mathlib.Core.Path.{◌≡◌, refl}
use mathlib.Core.List.{map}
use lib.Dec.{T}
use lib.Ieee.{of_bits, of_fields, odd}
use lib.Count.{count_trailing_zeros}
use Rattle.laws.proofs.Table.{every}
use Rattle.config.proofs.Among.{at-among}
use Rattle.twiddles.specs.Tables.{sizes, fft_re_bits, fft_im_bits}
use Rattle.twiddles.specs.Twiddles.{start}
use Rattle.twiddles.specs.Circle.{tiny}
use Rattle.twiddles.specs.Turns.{turn_bits, rust_turns, minus_zero_then_tiny, Turns}

turns_are : map turn_bits sizes ≡ rust_turns
unfolding sizes start fft_re_bits fft_im_bits turn_bits rust_turns
turns_are = refl

test : T (every (λ k n. minus_zero_then_tiny (turn_bits n)) 0 sizes)
unfolding sizes start fft_re_bits fft_im_bits turn_bits tiny of_bits of_fields odd count_trailing_zeros
test = tt

pub turns : Turns
turns = record { turns_are = turns_are; turns_tiny = at-among (λ n. minus_zero_then_tiny (turn_bits n)) sizes test }
