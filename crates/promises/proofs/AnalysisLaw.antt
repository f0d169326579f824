-- Demand 3 of analysis: what its definitions owe of a single call. A channel's array holds the last nf - z samples of the frame accepted last, and zeros after
-- them. Assumes nothing.
use Prim.Native.Nat.{ℕ, ◌+◌, ◌-◌}
use mathlib.Core.Path.{◌≡◌, refl, sym, ap, ◌∙◌}
use mathlib.Core.Bool.{not, cond}
use mathlib.Core.Option.{Option, some, none}
use mathlib.Core.List.{List, ◌++◌}
use native.Mathlib.Omega.{arith}
use lib.IntN.{ℤ, pos}
use lib.Dec.{T, eqb}
use lib.ListN.{length, get_or, drop, replicate, length-drop, length-replicate}
use Rattle.laws.specs.Lists.{tab}
use Rattle.laws.proofs.Lists.{length-tab, take-tab, tab-at}
use Rattle.config.specs.Config.{valid, nf, z}
use Rattle.config.proofs.Sound.{sound}
use Rattle.analysis_steps.proofs.Buffers.{step_of, past_of-step}
use Rattle.refusals.proofs.Clears.{clearing-map}
use Rattle.analysis.specs.declared.Channel.{Channel}
use Rattle.analysis_lines.specs.Lines.{time_buffer, mdct, lines_of}
use Rattle.analysis.specs.Analysis.{Cleared, Lent, kept_of, silent, cleared_as, cleared, framed, frames}
use Rattle.promises.specs.Sequence.{Demand3}
use Rattle.promises.specs.AnalysisChannel.{previous, buffer, given, analysis}
use Rattle.promises.proofs.Zeros.{take-replicate, drop-replicate}
use Rattle.promises.proofs.Law.{Fits, Lawful, demand3}

-- the array after a frame
abbrev keeps : ℕ → Option (List ℤ) → List ℤ
keeps c none = replicate 300 (pos 0)
keeps c (some f) = drop (z c) f ++ replicate (300 - (nf c - z c)) (pos 0)

-- the past that an array holds: its first nf - z places, as long as a step wants it
abbrev past : ℕ → List ℤ → List ℤ
past c s = tab (nf c - z c) (λ k. get_or s k (pos 0))

past_fits : (c : ℕ) (s : List ℤ) → T (valid c) → length (past c s) + z c ≡ nf c
past_fits c s v =
    let o = sound c v in
    let k = length-tab (nf c - z c) (λ k. get_or s k (pos 0)) in
    omega arith

frame_kept : (a : Channel) (x : Lent) → Fits nf a.config x.input → (framed 0 a x).1.samples ≡ keeps a.config (some x.input)
unfolding kept_of time_buffer
frame_kept a x f =
    let c = a.config in
    ap (λ (l : List ℤ). l ++ replicate (300 - (nf c - z c)) (pos 0))
    (past_of-step (nf c) (z c) (past c a.samples) (past_fits c a.samples f.is_valid) x.input f.length-is)

-- where the array's past is what the definition reads of the frame before, the lines are the definition's
reads : (c : ℕ) (s : List ℤ) (f : Option (List ℤ)) → T (valid c) → past c s ≡ drop (z c) (previous c f)
    → (x : List ℤ) → given (lines_of c (past c s) x) ≡ given (mdct c (buffer c (previous c f) x))
unfolding lines_of time_buffer
reads c s f v r x = ap (λ (t : List ℤ). given (mdct c t)) (step_of (nf c) (z c) (past c s) (past_fits c s v) x ∙ ap (λ (p : List ℤ). p ++ x ++ replicate (z c) (pos 0)) r)

read_none : (c : ℕ) → T (valid c) → past c (keeps c none) ≡ drop (z c) (previous c none)
read_none c v =
    let o = sound c v in
    let r = length-replicate 300 (pos 0) in
    sym (take-tab (nf c - z c) (replicate 300 (pos 0)) (pos 0) (omega arith))
    ∙ take-replicate (pos 0) (nf c - z c) 300 (omega arith)
    ∙ sym (drop-replicate (pos 0) (z c) (nf c))

read_some : (c : ℕ) (f : List ℤ) → Fits nf c f → past c (keeps c (some f)) ≡ drop (z c) f
read_some c f h = tab-at (drop (z c) f) (replicate (300 - (nf c - z c)) (pos 0)) (pos 0) (nf c - z c) (length-drop (z c) f ∙ ap (λ (n : ℕ). n - z c) h.length-is)

pub lawful : Lawful analysis
unfolding cleared frames
lawful =
    record {
      size = nf;
      new = silent;
      keeps = keeps;
      answer = λ c s x. given (lines_of c (past c s) x);
      cleared_by = λ c. clearing-map (λ (r : Cleared). (r.number, r.channel)) cleared_as (valid c) c;
      new-config = λ c. refl;
      new-kept = λ c. refl;
      rest = λ c x. cond (not (eqb (length x.lines) (nf c))) 4 0;
      number_is = λ c x. refl;
      framed = framed;
      framed_by = λ a x. refl;
      frame_refused = λ n a x. refl;
      frame-gives = λ a x. refl;
      frame-config = λ a x. refl;
      frame_kept = frame_kept;
      none_read = λ c v. reads c (keeps c none) none v (read_none c v);
      some_read = λ c f h. reads c (keeps c (some f)) (some f) h.is_valid (read_some c f h);
    }

pub analysis_demand3 : Demand3 analysis
analysis_demand3 = demand3 analysis lawful
