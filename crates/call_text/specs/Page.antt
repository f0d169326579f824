-- A page: a lent buffer, and the place where the next byte goes. Definitions only.
use Rattle.std.specs.Prelude.{ℕ, ◌+◌, cond, List, [], ◌∷◌, ltb, length, set}

pub record Page : Type 0 where
  pub bytes : List ℕ
  pub at : ℕ

unfoldable pub page : List ℕ → ℕ → Page
page bytes at = record { bytes = bytes; at = at }

-- the page with a byte more; one that finds no room is dropped
unfoldable pub put : Page → ℕ → Page
unfolding page
put p b = cond (ltb p.at (length p.bytes)) (page (set p.bytes p.at b) (p.at + 1)) p

-- the page with a text more, byte by byte
unfoldable pub written : Page → List ℕ → Page
unfolding put
written p [] = p
written p (b ∷ s) = written (put p b) s
