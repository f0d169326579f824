-- `synthesis_samples::samples_of` meets its contract: the DCT, then its places. Assumes nothing.
use Rattle.synthesis_samples.proofs.Made.{dct_takes, made-memory, made-samples}
use Rattle.synthesis_samples.proofs.samples_of.Goals as goal

pub apply_dct-requires : goal.apply_dct-requires
apply_dct-requires c = let st = c in dct_takes st.args.c st.requires.0 st.requires.1 st.requires.3

pub returns : goal.returns
returns c = let st = c in
    let a = st.args in
    let p = st.requires in
    let o = c.overlap_of.ensures in
    let y = c.apply_dct.ensures in
    record {
      memory = made-memory a.c p.0 a.lines.now p.1 p.3 y o.memory;
      samples = made-samples a.c p.0 a.lines.now p.1 p.3 y a.memory.now o.samples;
    }
