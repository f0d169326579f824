-- P: document 01's "Small facts on each side of an edge", of the definitions that the contracts cite. A row for each line; `P` is the one statement. Definitions only.
use Rattle.std.specs.Prelude.{ℕ, ◌-◌, ◌≡◌, ℤ, replicate, Float}
use Rattle.std.proofs.Math.Bool.{true, false}
use Rattle.std.proofs.Math.Option.{some}
use mathlib.Core.List.{List, [], ◌∷◌, ◌++◌, map}
use Rattle.std.proofs.Math.IntN.{pos, negsuc}
use Rattle.std.proofs.Math.ListN.{get_or}
use Rattle.std.specs.Float.Ieee.{binary32, of_int, of_bits, add}
use Rattle.std.specs.Float.{nan}
use Rattle.config.specs.Config.{edges}
use Rattle.refusals.specs.Refusals.{accepted, bad_value}
use Rattle.laws.specs.Passes.{passes6}
use Rattle.kf_work.specs.Work.{plan}
use Rattle.analysis_steps.specs.Buffer.{buffer_step}
use Rattle.analysis_steps.specs.Fold.{folded}
use Rattle.measurement.specs.Measurement.{flag_of}
use Rattle.laws.specs.Numbers.{zero32}
use Rattle.synthesis_steps.specs.Places.{unfolded, output, remains}
use Rattle.synthesis.specs.Synthesis.{Lent, number, index}
use Rattle.laws.specs.Greatest.{First, best}
use Rattle.loudest.specs.Loudest.{products, heard, of_loud, paper}

-- a whole number as an f32
abbrev pub whole : ℤ → Float
whole n = of_int binary32 n

-- 64 energies, zero but band 0 = 1.0 and band 62 = the value whose bits are b
abbrev pub bands : ℕ → List Float
bands b = of_bits binary32 0x3f800000 ∷ replicate 61 zero32 ++ (of_bits binary32 b ∷ zero32 ∷ [])

-- a synthesis call at configuration 0: 60 lines, zero but line 7 with the bits b
abbrev pub loud7 : ℕ → Lent
loud7 b = record { lines = replicate 7 zero32 ++ (of_bits binary32 b ∷ replicate 52 zero32); samples = replicate 60 zero32 }

-- 64 energies, zero but band b with the bits x and band 60 with the bits y: at configuration 9, of 48 kHz, band 2 has one line, band 50 eleven, and band 60 twenty
abbrev pub beside60 : ℕ → ℕ → ℕ → List Float
beside60 b x y = replicate b zero32 ++ (of_bits binary32 x ∷ replicate (59 - b) zero32 ++ (of_bits binary32 y ∷ replicate 3 zero32))

pub record Facts : Type 0 where
  -- P1 plan of 30: 2,15,3,5,5,1
  pub p1 : plan 30 ≡ 2 ∷ 15 ∷ 3 ∷ 5 ∷ 5 ∷ 1 ∷ []
  -- P2 of 90: 2,45,3,15,3,5,5,1
  pub p2 : plan 90 ≡ 2 ∷ 45 ∷ 3 ∷ 15 ∷ 3 ∷ 5 ∷ 5 ∷ 1 ∷ []
  -- P3 of 240: 4,60,4,15,3,5,5,1
  pub p3 : plan 240 ≡ 4 ∷ 60 ∷ 4 ∷ 15 ∷ 3 ∷ 5 ∷ 5 ∷ 1 ∷ []
  -- P4 fold, nf 4, window all 1, buffer 1..8: -13, -13, -3, -1
  pub p4 : folded 4 (replicate 8 0x3f800000) (pos 1 ∷ pos 2 ∷ pos 3 ∷ pos 4 ∷ pos 5 ∷ pos 6 ∷ pos 7 ∷ pos 8 ∷ []) ≡ map whole (negsuc 12 ∷ negsuc 12 ∷ negsuc 2 ∷ negsuc 0 ∷ [])
  -- P5 unfold of 1,2,3,4 before gain: 3,4,-4,-3,-2,-1,-1,-2
  pub p5 : unfolded 2 (map whole (pos 1 ∷ pos 2 ∷ pos 3 ∷ pos 4 ∷ [])) ≡ map whole (pos 3 ∷ pos 4 ∷ negsuc 3 ∷ negsuc 2 ∷ negsuc 1 ∷ negsuc 0 ∷ negsuc 0 ∷ negsuc 1 ∷ [])
  -- P6 buffer step, nf 4, z 1, old a0..a7 (a7 zero), frame b: a4,a5,a6,b0,b1,b2,b3,0
  pub p6 : (a0 a1 a2 a3 a4 a5 a6 b0 b1 b2 b3 : ℤ)
      → buffer_step 4 1 (a0 ∷ a1 ∷ a2 ∷ a3 ∷ a4 ∷ a5 ∷ a6 ∷ pos 0 ∷ []) (b0 ∷ b1 ∷ b2 ∷ b3 ∷ []) ≡ a4 ∷ a5 ∷ a6 ∷ b0 ∷ b1 ∷ b2 ∷ b3 ∷ pos 0 ∷ []
  -- P7 overlap, nf 4, z 1: m0+t1, m1+t2, m2+t3, t4; memory t5,t6,t7
  pub p7 : (m0 m1 m2 t0 t1 t2 t3 t4 t5 t6 t7 : Float) → output 4 1 (m0 ∷ m1 ∷ m2 ∷ []) (t0 ∷ t1 ∷ t2 ∷ t3 ∷ t4 ∷ t5 ∷ t6 ∷ t7 ∷ []) ≡ add binary32 m0 t1 ∷ add binary32 m1 t2 ∷ add binary32 m2 t3 ∷ t4 ∷ []
  pub p7_memory : (t0 t1 t2 t3 t4 t5 t6 t7 : Float) → remains 4 1 (t0 ∷ t1 ∷ t2 ∷ t3 ∷ t4 ∷ t5 ∷ t6 ∷ t7 ∷ []) ≡ t5 ∷ t6 ∷ t7 ∷ []
  -- P8 configuration 5, energies zero but band 0 = 1.0, band 62 = 30.0: flag 0
  pub p8 : flag_of 5 (bands 0x41f00000) ≡ false
  -- P9 band 62 with bits 0x41F00001: flag 1
  pub p9 : flag_of 5 (bands 0x41f00001) ≡ true
  -- P10 the same energies at configuration 9: flag 0
  pub p10 : flag_of 9 (bands 0x41f00001) ≡ false
  -- P11 bits 0x5D800000 (2^60) pass, 0x5D800001 gives 6: by the test, and as line 7 of a synthesis call, whose index is then 7
  pub p11_passes : passes6 (of_bits binary32 0x5d800000) ≡ true
  pub p11_fails : passes6 (of_bits binary32 0x5d800001) ≡ false
  pub p11_accepted : number 0 (loud7 0x5d800000) ≡ accepted
  pub p11_refused : number 0 (loud7 0x5d800001) ≡ bad_value
  pub p11_index : index bad_value (loud7 0x5d800001) ≡ 7
  -- P12, which with document 02 §2 reads: two equal greatest products, the lower band. A hum of 20.0 in band 2 and a tone of 1.0 in band 60, whose products are both 20.0
  pub p12 : paper (heard 9 (beside60 2 0x41a00000 0x3f800000)) ≡ of_loud 2 (of_bits binary32 0x41a00000)
  -- A hum of 3.0 and the same tone: the mean of band 2 is greater, the product of band 60.
  pub p12_mean : best (beside60 2 0x40400000 0x3f800000) 64 ≡ 2
  pub p12_broad : paper (heard 9 (beside60 2 0x40400000 0x3f800000)) ≡ of_loud 60 (of_bits binary32 0x41a00000)
  -- And of any energies, the band told is the first with the greatest product, and comes with it
  pub p12_any : (c : ℕ) (l : List Float) (b : ℕ) (p : Float) → (paper (heard c l)).values ≡ some (b, p) → First (products (edges c) l) b × (p ≡ get_or (products (edges c) l) b nan)
