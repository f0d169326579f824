-- `listing::end_line` meets its contract: the word, a space and the number. Assumes nothing.
use Rattle.listing.specs.Text.{end_line}
use Rattle.listing.proofs.end_line.Goals as goal

pub returns : goal.returns
unfolding end_line
returns c = c.worded.ensures
