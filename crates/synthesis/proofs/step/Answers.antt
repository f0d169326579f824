-- `synthesis::step` meets its contract: the first part of the memory is the frame's, the rest zeros. Assumes nothing.
use mathlib.Core.Path.{◌≡◌, sym, ap, ◌∙◌}
use mathlib.Core.List.{List, ◌++◌}
use Prim.Native.Nat.{ℕ, ◌-◌, ◌≤◌}
use native.Mathlib.Omega.{arith}
use lib.ListN.{length, get_or, take, drop, length-append}
use lib.Seq.{length-take-le}
use lib.Ieee.{Float}
use Rattle.laws.specs.Lists.{tab}
use Rattle.laws.proofs.Lists.{take-tab}
use Rattle.config.specs.Config.{nf, z}
use Rattle.laws.specs.Numbers.{zero32}
use Rattle.synthesis_samples.specs.Samples.{samples_of}
use Rattle.synthesis.specs.Synthesis.{number, lent, channel_of, channel_past}
use Rattle.synthesis.proofs.Frames.{passed}
use Rattle.synthesis.proofs.Made.{keeps, made_kept}
use Rattle.synthesis.proofs.step.Goals as goal

-- the part of the memory that is lent fits it, and is as long as what is kept
module _ (config : ℕ) (lines samples memory : List Float) (p : number config (lent lines samples) ≡ 0) (m : length memory ≡ 300) {zeros : ℕ} (e : zeros ≡ z config) where
  abbrev keep : ℕ
  keep = length samples - zeros

  fits : (zeros ≤ length samples) × (keep ≤ 300) × (keep ≡ nf config - z config)
  fits = keeps config (lent lines samples) p e

  part : length (take keep memory) ≡ keep
  part = length-take-le _ _ (omega (arith, fits, m))

  -- the memory as the frame leaves it is as long
  long : (new : List Float) → length new ≡ length (take keep memory) → keep ≤ length (new ++ drop keep memory)
  long new l = omega (arith, part, l, length-append new (drop keep memory))

pub overflow_sub-keep : goal.overflow_sub-keep
overflow_sub-keep c = omega (arith, fits c.args.config c.args.lines.now c.args.samples.now c.args.memory.now c.requires.0 c.requires.1 c.z.ensures)

pub slice_bounds-samples_of-end : goal.slice_bounds-samples_of-end
slice_bounds-samples_of-end c = omega (arith, fits c.args.config c.args.lines.now c.args.samples.now c.args.memory.now c.requires.0 c.requires.1 c.z.ensures, c.requires.1)

pub slice_bounds-samples_of-end-2 : goal.slice_bounds-samples_of-end-2
slice_bounds-samples_of-end-2 c = sym (part c.args.config c.args.lines.now c.args.samples.now c.args.memory.now c.requires.0 c.requires.1 c.z.ensures)

pub samples_of-requires : goal.samples_of-requires
samples_of-requires c = let a = c.args in
    let p = passed a.config (lent a.lines.now a.samples.now) c.requires.0 in
    let l = part a.config a.lines.now a.samples.now a.memory.now c.requires.0 c.requires.1 c.z.ensures in
    (p.is_valid, p.lines_is, l ∙ (fits a.config a.lines.now a.samples.now a.memory.now c.requires.0 c.requires.1 c.z.ensures).2, p.samples_is)

pub slice_bounds-zeros-count : goal.slice_bounds-zeros-count
slice_bounds-zeros-count c = omega (arith, long c.args.config c.args.lines.now c.args.samples.now c.args.memory.now c.requires.0 c.requires.1 c.z.ensures c.samples_of.new.memory c.samples_of.auto.memory)

pub slice_bounds-zeros-start : goal.slice_bounds-zeros-start
slice_bounds-zeros-start c = omega (arith, long c.args.config c.args.lines.now c.args.samples.now c.args.memory.now c.requires.0 c.requires.1 c.z.ensures c.samples_of.new.memory c.samples_of.auto.memory)

pub slice_bounds-zeros-end : goal.slice_bounds-zeros-end
slice_bounds-zeros-end c = omega (arith, long c.args.config c.args.lines.now c.args.samples.now c.args.memory.now c.requires.0 c.requires.1 c.z.ensures c.samples_of.new.memory c.samples_of.auto.memory)

pub returns : goal.returns
returns c = let s = c.samples_of in
    let a = c.args in
    let l = c.requires.1 in
    let f = fits a.config a.lines.now a.samples.now a.memory.now c.requires.0 l c.z.ensures in
    let k : ℕ = length a.samples.now - c.z.result in
    let e : length s.new.memory ≡ k = omega (arith, s.auto.memory, part a.config a.lines.now a.samples.now a.memory.now c.requires.0 l c.z.ensures) in
    let past : take k a.memory.now ≡ channel_past (channel_of a.config a.memory.now) = take-tab k a.memory.now zero32 (omega (arith, f, l)) ∙ ap (λ (i : ℕ). tab i (λ k. get_or a.memory.now k zero32)) f.2 in
    record {
      memory = made_kept a.config k a.lines.now a.memory.now l f.2 e s.ensures.memory c.zeros.ensures;
      samples = s.ensures.samples ∙ ap (λ (p : List Float). samples_of a.config p a.lines.now) past;
    }
