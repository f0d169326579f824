-- `listing::refused_line` meets its contract: the word, a space and the number. Assumes nothing.
use Rattle.listing.specs.Text.{refused_line}
use Rattle.listing.proofs.refused_line.Goals as goal

pub returns : goal.returns
unfolding refused_line
returns c = c.worded.ensures
