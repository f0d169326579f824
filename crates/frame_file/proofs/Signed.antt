-- 16 bits as a signed number. Assumes nothing.
use mathlib.Core.Path.{◌≡◌, sym, ap, ◌∙◌, subst}
use mathlib.Core.Logic.{⊎_elim}
use Prim.Native.Nat.{ℕ, suc, ◌-◌, ◌^◌, ◌<◌}
use native.Mathlib.Omega.{arith}
use lib.Dec.{ltb}
use lib.IntN.{ℤ}
use mir.Syntax.{w16}
use mir.Val.{to_z, of_z, SFits}
use mir.ValLaws.{to_z_pos, to_z-of_z, to_z-Fits}
use borrow.Author.Tests.{ltb-true, ltb-false}
use Rattle.std.proofs.Math.Facts.{to_z-neg}
use Rattle.laws.proofs.Bools.{outcomes}
use Rattle.frame_file.specs.File.{signed}

pub read-is : (n : ℕ) → n < 0x10000 → to_z w16 n ≡ signed n
unfolding signed
read-is n h =
    ⊎_elim
    (λ t. to_z_pos w16 n (ltb-true n 0x8000 t) ∙ sym (rw t))
    (λ f.
    let low = ltb-false n 0x8000 f in
    let e : n ≡ 2 ^ 16 - suc (0xffff - n) = omega arith in
    ap (to_z w16) e ∙ to_z-neg w16 (0xffff - n) (omega arith) ∙ sym (rw f))
    (outcomes (ltb n 0x8000))

-- a sample is what is read where it was stored
pub stored : (n : ℕ) (v : ℤ) → v ≡ signed n → n < 0x10000 → to_z w16 (of_z w16 v) ≡ signed n
stored n v e h =
    let fits : SFits w16 (signed n) = subst (SFits w16) (read-is n h) (to_z-Fits w16 n (record { fits = h })) in
    ap (λ (x : ℤ). to_z w16 (of_z w16 x)) e ∙ to_z-of_z w16 (signed n) fits
