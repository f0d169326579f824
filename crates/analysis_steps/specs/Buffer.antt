-- The time buffer of 2 nf samples (`update_time_buffer`). Definitions only.
use Rattle.std.specs.Prelude.{List, ◌++◌, ℕ, ◌-◌, ℤ, pos, take, drop, replicate}

-- the past that a time buffer holds: places nf to 2 nf - z - 1
unfoldable pub past_of : ℕ → ℕ → List ℤ → List ℤ
past_of nf z t = take (nf - z) (drop nf t)

-- the step: the first nf - z places take the past, then the frame, then z zeros
unfoldable pub buffer_step : ℕ → ℕ → List ℤ → List ℤ → List ℤ
buffer_step nf z old x = past_of nf z old ++ x ++ replicate z (pos 0)

-- a time buffer that holds this past, and zeros at the places that no step reads
unfoldable pub buffer_of : ℕ → ℕ → List ℤ → List ℤ
buffer_of nf z past = replicate nf (pos 0) ++ past ++ replicate z (pos 0)
