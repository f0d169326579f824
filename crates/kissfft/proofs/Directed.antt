-- The transform that reads packed twiddles is that of the direction, where the twiddles are. Assumes nothing.
use mathlib.Core.Path.{◌≡◌, refl, subst}
use mathlib.Core.Bool.{Bool, false}
use mathlib.Core.List.{List}
use Prim.Native.Nat.{ℕ}
use lib.Dec.{T}
use lib.Ieee.{Float}
use lib.ListN.{length}
use Rattle.complex.specs.declared.Complex.{Complex}
use Rattle.complex.specs.Complex.{at}
use Rattle.config.specs.Config.{among, fft_sizes}
use Rattle.kf_work.specs.Work.{BothParts}
use Rattle.kf_work.specs.Packed.{PackedTransformed}
use Rattle.fft_tables.specs.FftTables.{packed_re, packed_im, packed_im_of}
use Rattle.fft_tables.proofs.Packs.{packed_spectrum_lem}
use Rattle.kissfft.specs.Fft.{Transformed}

pub directed : (inverse : Bool) (x y tr ti re im : List Float) → T (among fft_sizes (length x)) → tr ≡ packed_re (length x) → ti ≡ packed_im_of inverse (length x)
    → PackedTransformed inverse tr ti x y re im → Transformed inverse x y re im
directed inverse x y tr ti re im s er ei h =
    subst (λ (f : ℕ → Complex). BothParts (length x) f re im) (packed_spectrum_lem (length x) s inverse tr ti (at x y) er ei) h

pub forward : (n : ℕ) → packed_im n ≡ packed_im_of false n
unfolding packed_im_of
forward n = refl
