-- `loudest::scan` meets its contract. The invariant: the band is the best of the places passed, and its product is at hand. Assumes nothing.
use mathlib.Core.Path.{◌≡◌}
use lib.ListN.{get_or}
use lib.Ieee.{nan}
use Rattle.laws.specs.Greatest.{best}
use Rattle.loudest.specs.Loudest.{products}
use Rattle.loudest.proofs.scan.Given as goal

abbrev pub invariant-loop-i : goal.invariant-loop-i
invariant-loop-i l = (l.band ≡ best (products l.edges l.energies) l.i) × (l.greatest ≡ get_or (products l.edges l.energies) l.band nan)
