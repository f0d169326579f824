-- What waits in the buffer. That it was written no contract says. Definitions only.
use Rattle.std.specs.Prelude.{ℕ, ◌+◌, ◌-◌, ◌^◌, ◌≤◌, min, ◌≡◌, ◌⊎◌, true, false, cond, List, ltb, length}
use Rattle.std.proofs.Math.Seq.{paste}
use Rattle.listing.specs.declared.line.Text.{Text}
use Rattle.lmf_list.specs.declared.Output.{Output}
use Rattle.lmf_list.specs.declared.Ending.{Ending}

-- how many of n waiting bytes still wait once there is room for a line: all, or none, where the room was too little and they went out
abbrev pub waiting : ℕ → ℕ → ℕ
waiting room n = cond (ltb (room - n) 64) 0 n

-- room for a line after n bytes of a buffer
pub record Room (room n : ℕ) (r : Output) : Type 0 where
  -- what waits is kept, or has gone out
  pub len : r.len ≡ waiting room n
  -- nothing has failed where nothing had to go out
  pub ok : ltb (room - n) 64 ≡ false → r.ok ≡ true

-- a line put after n bytes of a buffer
pub record Put (before : List ℕ) (n : ℕ) (t : Text) (r : Output) (after : List ℕ) : Type 0 where
  -- it is counted, after what still waits, and inside the buffer
  pub len : r.len ≡ waiting (length before) n + min t.len 64
  pub within : r.len ≤ length after
  -- its bytes stand right behind what still waits, and nothing else of the buffer changes
  pub bytes : after ≡ paste before (waiting (length before) n) t.bytes (min t.len 64)
  -- nothing has failed where nothing had to go out
  pub ok : ltb (length before - n) 64 ≡ false → r.ok ≡ true

-- the end of a listing
pub record Ended (r : Ending) (after : List ℕ) : Type 0 where
  -- what still waits is a part of the buffer
  pub within : r.output.len ≤ length after
  -- where its reads and writes went well it ends with its last line, for which no bytes were used, or with as many frames as can be counted
  pub last : r.step.input.ok ≡ true → r.output.ok ≡ true → (r.step.stepped.used ≡ 0) ⊎ (r.step.stepped.lister.count ≡ 2 ^ 64 - 1)
