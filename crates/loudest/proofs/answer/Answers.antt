-- `loudest::answer` meets its contract: the greatest product is above zero where some energy is, and only there. Assumes nothing.
use mathlib.Core.Path.{refl}
use lib.Ieee.{of_bits}
use Rattle.loudest.proofs.Rank.{asked, within, loud-answer, quiet-answer}
use Rattle.loudest.proofs.answer.Goals as goal

pub scan-band-requires : goal.scan-band-requires
scan-band-requires c = let s = c in
    asked s.args.c s.args.energies.now _ s.requires.0 s.requires.1 c.edges-edges.ensures

pub product-greatest-requires : goal.product-greatest-requires
product-greatest-requires c = let s = c in
    let e = c.edges-edges.ensures in
    let a = asked s.args.c s.args.energies.now _ s.requires.0 s.requires.1 e in
    (within s.args.c s.args.energies.now _ s.requires.0 s.requires.1 e s.requires.2 _ _ c.scan-band.ensures refl, a.1, a.2)

pub returns-then-greatest : goal.returns-then-greatest
unfolding of_bits
returns-then-greatest c = let s = c in
    loud-answer s.args.c s.args.energies.now _ s.requires.0 s.requires.1 c.edges-edges.ensures s.requires.2 _ _ c.scan-band.ensures c.product-greatest.ensures c.if-greatest.true

pub returns-else-greatest : goal.returns-else-greatest
unfolding of_bits
returns-else-greatest c = let s = c in
    quiet-answer s.args.c s.args.energies.now _ s.requires.0 s.requires.1 c.edges-edges.ensures s.requires.2 _ _ c.scan-band.ensures c.product-greatest.ensures c.type_inv.energies c.if-greatest.false
