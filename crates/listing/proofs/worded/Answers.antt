use Rattle.plain_text.specs.Text.{newline, decimal}
use mathlib.Core.List.{◌++◌}
use Rattle.listing.proofs.worded.Goals as goal
-- `listing::worded` meets its contract: a line that grows from a blank one. Assumes nothing.
use mathlib.Core.Path.{ap}
use native.Mathlib.Omega.{arith}
use Rattle.listing.specs.declared.line.Text.{Text}
use Rattle.listing.proofs.Lines.{begun, grown, says_len}

pub with_bytes-requires : goal.with_bytes-requires
with_bytes-requires c = omega (arith, ap (λ (t : Text). t.len) c.blank.ensures, c.requires)

pub numbered-requires : goal.numbered-requires
numbered-requires c = omega (arith, says_len (begun c.args.word.now c.blank.ensures c.with_bytes.ensures), c.requires)

pub returns : goal.returns
returns c = let a = c.args in
    (grown (decimal a.n ++ newline) (begun a.word.now c.blank.ensures c.with_bytes.ensures) c.numbered.ensures).is
