-- The page of the code: what a call on it writes. Definitions only.
use Rattle.std.specs.Prelude.{ℕ, List, ◌≡◌}
use Rattle.call_text.specs.Page.{page, written}
use Rattle.call_text.specs.declared.Page as declared

-- the page after a call is the page before it with the text, in the same buffer
pub record Writes (before after : declared.Page) (bytes : List ℕ) : Type 0 where
  pub same : after.out.ghost_name ≡ before.out.ghost_name
  pub text : page after.out.now after.at ≡ written (page before.out.now before.at) bytes
