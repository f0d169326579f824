-- `loudest::scan` meets its contract. The invariant: the band is the best of the places passed, and its product is at hand. Assumes nothing.
use mathlib.Core.Path.{◌≡◌, refl, sym, ap, ◌∙◌}
use Prim.Native.Nat.{ℕ}
use native.Mathlib.Omega.{arith}
use lib.ListN.{length, get_or}
use lib.Ieee.{nan}
use Rattle.laws.specs.Greatest.{best}
use Rattle.laws.proofs.Greatest.{scan_takes, scan_keeps}
use Rattle.loudest.specs.Loudest.{products}
use Rattle.loudest.proofs.Rank.{product_at}
use Rattle.loudest.proofs.scan.Goals as goal
use Rattle.loudest.proofs.scan.Goals.{then-greatest-own, else-greatest-own}

pub loop-i-init : goal.loop-i-init
unfolding best
loop-i-init c = let a = c in
    (refl, c.product-greatest.ensures ∙ sym (product_at a.args.edges.now a.args.energies.now 0 a.requires.0))

pub loop-i-preserved : goal.loop-i-preserved
loop-i-preserved c = let a = c.args in
    let l = c.loop-i in
    let ps = products a.edges.now a.energies.now in
    let e : c.product-own.result ≡ get_or ps l.i nan = c.product-own.ensures ∙ sym (product_at a.edges.now a.energies.now l.i (omega arith)) in
    elim c.if-greatest-own.branch [
      | then-greatest-own w ↦ (w.band-is ∙ scan_takes ps l.band l.i l.greatest l.invariant.0 l.invariant.1 (rw e at w.if-greatest-own.true), w.greatest-is ∙ e ∙ ap (λ (k : ℕ). get_or ps k nan) (sym w.band-is))
      | else-greatest-own w ↦ (w.band-is ∙ scan_keeps ps l.band l.i l.greatest l.invariant.0 l.invariant.1 (rw e at w.if-greatest-own.false), w.greatest-is ∙ l.invariant.1 ∙ ap (λ (k : ℕ). get_or ps k nan) (sym w.band-is))
    ]

pub returns : goal.returns
returns c = let a = c.args in
    let e : c.loop-i.i ≡ length a.energies.now = omega arith in
    c.loop-i.invariant.0 ∙ ap (best (products a.edges.now a.energies.now)) e
