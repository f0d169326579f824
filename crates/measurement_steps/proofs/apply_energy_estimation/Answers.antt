-- `apply_energy_estimation` meets its contract. The loop's invariant: the first b places of both slices are filled with their bands' energies and peaks. Assumes nothing.
use mathlib.Core.Path.{◌≡◌, ap}
use native.Mathlib.Omega.{arith}
use lib.ListN.{length}
use lib.Ieee.{nan}
use Rattle.laws.proofs.Lists.{filled_more, filled_all}
use Rattle.measurement_steps.specs.declared.Reading.{Reading}
use Rattle.measurement_steps.specs.Energy.{energies}
use Rattle.measurement_steps.specs.Peak.{peaks, whole}
use Rattle.measurement_steps.proofs.Filled.{filled_from}
use Rattle.measurement_steps.proofs.apply_energy_estimation.Goals as goal

pub loop-b-init : goal.loop-b-init
loop-b-init c = let a = c.args in
    let first = c.singles-b.ensures in
    (filled_from _ _ a.out.now _ first.bands.0, filled_from _ _ a.places.now _ first.bands.1)

pub band-own-requires : goal.band-own-requires
band-own-requires c = let p = c.requires in
    let r = p.3 c.loop-b.b (omega arith) in
    (p.0, omega arith, r.0, r.1)

pub loop-b-preserved : goal.loop-b-preserved
unfolding whole
loop-b-preserved c = let l = c.loop-b in
    let own = c.band-own.ensures in
    (filled_more _ nan l.invariant.0 (omega arith) (ap (λ (x : Reading). x.energy) own), filled_more _ 0 l.invariant.1 (omega arith) (ap (λ (x : Reading). x.peak) own))

pub returns : goal.returns
unfolding energies peaks
returns c = let a = c.args in
    let s = c.singles-b in
    let inv = c.loop-b.invariant in
    let same : length s.new.out ≡ length a.out.now = omega arith in
    let alike : length s.new.places ≡ length a.out.now = omega arith in
    (rw same at (filled_all inv.0 (omega arith)), rw alike at (filled_all inv.1 (omega arith)))
