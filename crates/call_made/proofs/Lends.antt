-- A room of which as many places are lent as a count asks for, as the code makes it. Assumes nothing.
use mathlib.Core.Path.{◌≡◌, sym, ap, ◌∙◌}
use mathlib.Core.List.{List, ◌++◌}
use Prim.Native.Nat.{ℕ, ◌≤◌, min}
use native.Mathlib.Omega.{arith}
use lib.ListN.{length, take, drop, length-append}
use lib.Seq.{length-take-le}
use Rattle.laws.specs.Lists.{tab}
use Rattle.frame_file.specs.File.{short}
use Rattle.call_log.specs.Log.{Places}

-- n places of the room, which is a fresh one of `most` places, for the count at the front of l
pub record Lends {A : Type 0} (most : ℕ) (fresh : List A) (l : List ℕ) (n : ℕ) (room : List A) : Type 0 where
  pub new : room ≡ fresh
  pub asked : n ≡ min (short l) most
  pub long : length (take n room) ≡ min (short l) most

-- what making the room says, and what counting says
abbrev pub Fresh : {A : Type 0} → ℕ → List A → List A → Type 0
Fresh most fresh room = record { value : room ≡ fresh; places : most ≡ length room }

abbrev pub Counted : {A : Type 0} → List ℕ → List A → ℕ → Type 0
Counted read room n = record { value : n ≡ min (short read) (length room); places : Places n room }

-- from what making the room, counting and reading l say
pub lends : {A : Type 0} {most : ℕ} {fresh room : List A} {l read : List ℕ} {n : ℕ} →
    Fresh most fresh room → read ≡ l → Counted read room n → Lends most fresh l n room
lends {most} made e counted =
    let n-is = counted.value ∙ (λ j. min (short (e j)) (sym made.places j)) in
    record { new = made.value; asked = n-is; long = sym counted.places.1 ∙ n-is }

-- what is answered of values read into the lent places is answered of as many as the count asks for
pub read_of : {A R : Type 0} {most n : ℕ} {fresh room : List A} {l : List ℕ} {r : R} (f : List A → R) (g : ℕ → A) → Lends most fresh l n room → r ≡ f (tab (length (take n room)) g) → r ≡ f (tab (min (short l) most) g)
read_of f g u e = e ∙ ap (λ (k : ℕ). f (tab k g)) u.long

-- a fresh room whose lent places are read into, and the rest of it as it was
pub read_into : {A : Type 0} {most n : ℕ} {fresh room last : List A} {l read : List ℕ} (f : List ℕ → ℕ → A) →
    Fresh most fresh room → read ≡ l → Counted read room n → last ≡ tab (length (take n room)) (f read) →
    last ++ drop n room ≡ tab (min (short l) most) (f l) ++ drop (min (short l) most) fresh
read_into {n = n} {room = room} f made e counted filled =
    let u = lends made e counted in
    ap (λ (x : List _). x ++ drop n room) filled ∙ (λ j. tab (u.long j) (f (e j)) ++ drop (u.asked j) (u.new j))

-- the lent places are there still when they have become `last`
pub still : {A : Type 0} (n : ℕ) (room last : List A) → Places n room → length last ≡ length (take n room) → Places n (last ++ drop n room)
still n room last p e =
    let h : n ≤ length (last ++ drop n room) = omega (arith, length-append last (drop n room)) in
    (h, sym (length-take-le n (last ++ drop n room) h))
