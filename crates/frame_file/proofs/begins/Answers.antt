-- `frame_file::begins` meets its contract: byte after byte, as the definition says. Assumes nothing.
use mathlib.Core.Path.{◌∙◌}
use borrow.Author.Rules.{rules}
use Rattle.frame_file.proofs.Marks.{begins-is}
use Rattle.frame_file.proofs.begins.Goals as goal

pub returns : goal.returns
returns c = c.starts_with.ensures.value ∙ begins-is c.args.file.now c.args.mark.now c.requires (search rules)
