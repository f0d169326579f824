-- `listing::Lister::wanted` meets its contract. Assumes nothing.
use native.Mathlib.Omega.{arith}
use Rattle.listing.proofs.Found.{nf_most}
use Rattle.listing.proofs.Lister.wanted.Goals as goal

pub overflow_mul-result : goal.overflow_mul-result
overflow_mul-result c = omega (arith, c.nf.ensures, nf_most c.args.self.channel.config)
