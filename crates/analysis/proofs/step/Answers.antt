-- `step` meets its contract: what the steps ensure of the past and the frame is the definition's accepted call. Assumes nothing.
use mathlib.Core.Path.{◌≡◌, sym, ap, ◌∙◌}
use mathlib.Core.List.{List, ◌++◌}
use Prim.Native.Nat.{ℕ, ◌-◌}
use native.Mathlib.Omega.{arith}
use lib.IntN.{ℤ, pos}
use lib.ListN.{length, get_or, take, drop, replicate}
use lib.Seq.{length-take-le}
use Rattle.laws.proofs.Lists.{length-tab, take-tab}
use Rattle.config.specs.Config.{nf, z}
use Rattle.analysis_lines.specs.Lines.{lines_of}
use Rattle.analysis.specs.Analysis.{channel_of, channel_past}
use Rattle.analysis.proofs.Made.{keeps, made_kept}
use Rattle.analysis.proofs.Frames.{made}
use Rattle.analysis.proofs.step.Goals as goal

pub overflow_sub-keep : goal.overflow_sub-keep
overflow_sub-keep c = let st = c in (keeps st.args.c st.requires.0 st.requires.1 c.z-z.ensures).0

pub slice_bounds-lines_of-end : goal.slice_bounds-lines_of-end
slice_bounds-lines_of-end c = let st = c in omega (arith, keeps st.args.c st.requires.0 st.requires.1 c.z-z.ensures, st.requires.3)

pub slice_bounds-lines_of-end-2 : goal.slice_bounds-lines_of-end-2
slice_bounds-lines_of-end-2 c = let st = c in sym (length-take-le _ st.args.samples.now (omega (arith, keeps st.args.c st.requires.0 st.requires.1 c.z-z.ensures, st.requires.3)))

pub lines_of-requires : goal.lines_of-requires
lines_of-requires c = let st = c in
    let k = keeps st.args.c st.requires.0 st.requires.1 c.z-z.ensures in
    (st.requires.0, length-take-le _ st.args.samples.now (omega (arith, k, st.requires.3)) ∙ k.2, st.requires.1, st.requires.2)

pub keep-requires : goal.keep-requires
keep-requires c = let st = c in
    let k = keeps st.args.c st.requires.0 st.requires.1 c.z-z.ensures in
    (k.0, omega (arith, k, st.requires.3))

pub returns : goal.returns
returns c = let st = c in
    let z-is = c.z-z.ensures in
    let n = st.args.c in
    let x = st.args.input.now in
    let l = st.args.samples.now in
    let past = channel_past (channel_of n l) in
    let k = keeps st.args.c st.requires.0 st.requires.1 z-is in
    let past_is : take (nf n - z n) l ≡ past = take-tab (nf n - z n) l (pos 0) (omega (arith, k, st.requires.3)) in
    let q = c.z-z.result in
    sym
    (made n past x _ _
    (c.lines_of.ensures ∙ ap (λ (m : ℕ). lines_of n (take m l) x) k.2 ∙ ap (λ (p : List ℤ). lines_of n p x) past_is)
    (made_kept n past x st.requires.0 (length-tab (nf n - z n) (λ m. get_or l m (pos 0))) st.requires.1 q _ z-is (c.keep.ensures ∙ ap (λ (m : ℕ). drop q x ++ replicate (m - length (drop q x)) (pos 0)) st.requires.3)))
