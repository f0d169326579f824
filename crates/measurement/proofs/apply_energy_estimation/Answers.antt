-- `apply_energy_estimation` meets its contract: the energies by the configuration's edges, or line by line where these are a line apart each. Assumes nothing.
use mathlib.Core.Path.{ap}
use native.Mathlib.Omega.{arith}
use lib.ListN.{length}
use Rattle.config.proofs.Sound.{sound, edges_rise}
use Rattle.measurement_steps.specs.Energy.{energies}
use Rattle.measurement_steps.specs.Peak.{peaks}
use Rattle.measurement.specs.Measurement.{energies_of, peaks_of}
use Rattle.measurement.proofs.Made.{by_edges, made_ones, made-own}
use Rattle.measurement.proofs.apply_energy_estimation.Goals as goal

pub returns-then-energies-lines : goal.returns-then-energies-lines
returns-then-energies-lines c = let s = c in
    let n = length s.args.energies.now in
    let ls = s.args.lines.now in
    let wrote = c.ones.ensures in
    (made_ones s.args.c n ls s.requires.0 s.requires.2 s.requires.1 (omega arith) wrote.0, made-own s.args.c n ls s.requires.0 s.requires.2 s.requires.1 (omega arith) wrote.1)

pub apply_energy_estimation-requires : goal.apply_energy_estimation-requires
apply_energy_estimation-requires c = let st = c in
    let e = c.edges-edges.ensures in
    let s = sound st.args.c st.requires.0 in
    (omega arith, omega (arith, ap length e), omega arith, edges_rise st.args.c _ _ _ st.requires.0 st.requires.2 (omega (arith, st.requires.1, s.ne_le)) e)

pub returns : goal.returns
unfolding energies_of peaks_of
returns c = let s = c in
    let ls = s.args.lines.now in
    let e = c.edges-edges.ensures in
    let wrote = c.apply_energy_estimation.ensures in
    (by_edges (λ n es. energies n es ls) s.args.c s.requires.2 e wrote.0, by_edges (λ n es. peaks n es ls) s.args.c s.requires.2 e wrote.1)
