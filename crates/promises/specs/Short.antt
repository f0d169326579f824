-- Document 02 §1, "Short frames", in its own numbers: what the tables and the definitions that the contracts cite say of configurations 10 to 19. Definitions only.
use Rattle.std.specs.Prelude.{ℕ, ◌*◌, ◌≤◌, ◌≡◌, true, false, List, [], ◌∷◌, map, ℤ, Float}
use Rattle.std.specs.Float.{binary32}
use Rattle.std.specs.Float.Ieee.{add}
use Rattle.config.specs.Config.{valid, nf, z, ne, nb, rate, duration, upper, among, fft_sizes, dct_lengths}
use Rattle.kf_work.specs.Work.{plan}
use Rattle.analysis_steps.specs.Buffer.{buffer_step}
use Rattle.synthesis_steps.specs.Places.{output, remains}

-- "as configurations 10 to 14 and 15 to 19"
abbrev pub five : List ℕ
five = 10 ∷ 11 ∷ 12 ∷ 13 ∷ 14 ∷ []

abbrev pub two_and_a_half : List ℕ
two_and_a_half = 15 ∷ 16 ∷ 17 ∷ 18 ∷ 19 ∷ []

-- the FFT sizes, with 10 and 20
abbrev pub all_sizes : List ℕ
all_sizes = 10 ∷ 20 ∷ 30 ∷ 40 ∷ 60 ∷ 80 ∷ 90 ∷ 120 ∷ 160 ∷ 180 ∷ 240 ∷ []

-- the DCT lengths: twice these
abbrev pub all_lengths : List ℕ
all_lengths = map (λ n. 2 * n) all_sizes

pub record Short : Type 0 where
  -- "frames of 5 ms and 2.5 ms at the five rates"
  pub five_lasts : map duration five ≡ 5000 ∷ 5000 ∷ 5000 ∷ 5000 ∷ 5000 ∷ []
  pub two_and_a_half_lasts : map duration two_and_a_half ≡ 2500 ∷ 2500 ∷ 2500 ∷ 2500 ∷ 2500 ∷ []
  pub five_rates : map rate five ≡ 8000 ∷ 16000 ∷ 24000 ∷ 32000 ∷ 48000 ∷ []
  pub two_and_a_half_rates : map rate two_and_a_half ≡ 8000 ∷ 16000 ∷ 24000 ∷ 32000 ∷ 48000 ∷ []
  -- "Frame lengths are 40, 80, 120, 160, 240 and 20, 40, 60, 80, 120"
  pub five_lengths : map nf five ≡ 40 ∷ 80 ∷ 120 ∷ 160 ∷ 240 ∷ []
  pub two_and_a_half_lengths : map nf two_and_a_half ≡ 20 ∷ 40 ∷ 60 ∷ 80 ∷ 120 ∷ []
  -- "z .. from the ETSI text", as liblc3 has it: a quarter of the frame at 5 ms, nothing at 2.5 ms
  pub five_zeros : map z five ≡ 10 ∷ 20 ∷ 30 ∷ 40 ∷ 60 ∷ []
  pub two_and_a_half_zeros : map z two_and_a_half ≡ 0 ∷ 0 ∷ 0 ∷ 0 ∷ 0 ∷ []
  -- "bands": their number, and the coded lines, where the last ends
  pub five_bands : map nb five ≡ 39 ∷ 50 ∷ 52 ∷ 54 ∷ 55 ∷ []
  pub two_and_a_half_bands : map nb two_and_a_half ≡ 20 ∷ 35 ∷ 40 ∷ 43 ∷ 44 ∷ []
  pub five_coded : map ne five ≡ 40 ∷ 80 ∷ 120 ∷ 160 ∷ 200 ∷ []
  pub two_and_a_half_coded : map ne two_and_a_half ≡ 20 ∷ 40 ∷ 60 ∷ 80 ∷ 100 ∷ []
  -- "the flag's split", as liblc3 has it: the last 3 bands at 5 ms, the last 2 at 2.5 ms
  pub five_upper : map upper five ≡ 3 ∷ 3 ∷ 3 ∷ 3 ∷ 3 ∷ []
  pub two_and_a_half_upper : map upper two_and_a_half ≡ 2 ∷ 2 ∷ 2 ∷ 2 ∷ 2 ∷ []
  -- "FFT sizes 10 and 20 are new, with plans 2,5,5,1 and 4,5,5,1"
  pub plan_10 : plan 10 ≡ 2 ∷ 5 ∷ 5 ∷ 1 ∷ []
  pub plan_20 : plan 20 ≡ 4 ∷ 5 ∷ 5 ∷ 1 ∷ []
  -- "1 now begins at 20"
  pub last : valid 19 ≡ true
  pub none_above : (c : ℕ) → 20 ≤ c → valid c ≡ false
  -- "2 accepts the new sizes", and none but the sizes and lengths above, of any number
  pub sizes : (n : ℕ) → among fft_sizes n ≡ among all_sizes n
  pub lengths : (n : ℕ) → among dct_lengths n ≡ among all_lengths n
  -- P6 with z 0: the past is the whole frame before
  pub buffer_whole : (a0 a1 a2 a3 a4 a5 a6 a7 b0 b1 b2 b3 : ℤ)
      → buffer_step 4 0 (a0 ∷ a1 ∷ a2 ∷ a3 ∷ a4 ∷ a5 ∷ a6 ∷ a7 ∷ []) (b0 ∷ b1 ∷ b2 ∷ b3 ∷ []) ≡ a4 ∷ a5 ∷ a6 ∷ a7 ∷ b0 ∷ b1 ∷ b2 ∷ b3 ∷ []
  -- P7 with z 0: every sample is a sum, and the memory is the second half
  pub overlap_whole : (m0 m1 m2 m3 t0 t1 t2 t3 t4 t5 t6 t7 : Float)
      → output 4 0 (m0 ∷ m1 ∷ m2 ∷ m3 ∷ []) (t0 ∷ t1 ∷ t2 ∷ t3 ∷ t4 ∷ t5 ∷ t6 ∷ t7 ∷ []) ≡ add binary32 m0 t0 ∷ add binary32 m1 t1 ∷ add binary32 m2 t2 ∷ add binary32 m3 t3 ∷ []
  pub memory_whole : (t0 t1 t2 t3 t4 t5 t6 t7 : Float) → remains 4 0 (t0 ∷ t1 ∷ t2 ∷ t3 ∷ t4 ∷ t5 ∷ t6 ∷ t7 ∷ []) ≡ t4 ∷ t5 ∷ t6 ∷ t7 ∷ []
