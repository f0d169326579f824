-- What the program keeps of its input from call to call. Definitions only.
use Rattle.std.specs.Prelude.{ℕ, ◌≤◌}

-- the bytes from..to of an input of so many places are not used yet
pub record Unused (from to room : ℕ) : Type 0 where
  pub ordered : from ≤ to
  pub inside : to ≤ room
