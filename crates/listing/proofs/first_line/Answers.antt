use Rattle.frame_file.specs.File.{lmf}
use Rattle.listing.proofs.first_line.Goals as goal
-- `listing::first_line` meets its contract: a line that grows from a blank one. Assumes nothing.
use mathlib.Core.Path.{ap, ◌∙◌}
use mathlib.Core.List.{◌++◌, append_assoc}
use native.Mathlib.Omega.{arith}
use Rattle.listing.specs.declared.line.Text.{Text}
use Rattle.plain_text.specs.Text.{space, newline, decimal}
use Rattle.listing.specs.Text.{first_line}
use Rattle.listing.specs.Steps.{text}
use Rattle.listing.proofs.Lines.{begun, grown, says_len, length-numbered}

pub with_bytes-marked-requires : goal.with_bytes-marked-requires
with_bytes-marked-requires c = omega (arith, ap (λ (t : Text). t.len) c.blank.ensures)

pub numbered-requires : goal.numbered-requires
numbered-requires c = omega (arith, says_len (begun (lmf ++ space) c.blank.ensures c.with_bytes-marked.ensures))

pub numbered-requires-2 : goal.numbered-requires-2
numbered-requires-2 c = let v = c.args.version in
    omega (arith, says_len (grown (decimal v ++ space) (begun (lmf ++ space) c.blank.ensures c.with_bytes-marked.ensures) c.numbered.ensures), length-numbered v space (omega (arith, c.ranges.version.fits)))

pub returns : goal.returns
unfolding first_line
returns c = let a = c.args in
    let marked = begun (lmf ++ space) c.blank.ensures c.with_bytes-marked.ensures in
    let versioned = grown (decimal a.version ++ space) marked c.numbered.ensures in
    (grown (decimal a.config ++ newline) versioned c.numbered-2.ensures).is ∙ ap text (simp append_assoc)
