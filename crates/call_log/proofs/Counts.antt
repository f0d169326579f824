-- A count of places of a room: as many as are asked for, and at most all. Assumes nothing.
use mathlib.Core.Path.{◌≡◌, sym}
use mathlib.Core.List.{List}
use Prim.Native.Nat.{ℕ, ◌≤◌, ◌<◌, min}
use native.Mathlib.Omega.{arith}
use lib.ListN.{length}
use lib.Seq.{length-take-le}
use Rattle.call_log.specs.Log.{Places}

counts : {A : Type 0} (n : ℕ) (room : List A) → n ≤ length room → Places n room
counts n room h = (h, sym (length-take-le n room h))

-- n is what was read for the count that is stated, m
pub fewer : {A : Type 0} (n m : ℕ) (room : List A) → n ≡ m → n < length room → (n ≡ min m (length room)) × Places n room
fewer n m room e h = (omega arith, counts n room (omega arith))

pub all : {A : Type 0} (n m : ℕ) (room : List A) → n ≡ m → length room ≤ n → (length room ≡ min m (length room)) × Places (length room) room
all n m room e h = (omega arith, counts (length room) room (omega arith))
