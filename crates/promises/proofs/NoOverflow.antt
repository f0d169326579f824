-- Document 02 §13: a channel's samples stay 16-bit and its memory at most 2^74, whatever is called; and of such an array the laws of bounds hold. Assumes nothing.
use Prim.Native.Nat.{ℕ, zero, suc, ◌-◌, ◌*◌, ◌≤◌, ◌<◌}
use native.Mathlib.Nat.{le_antisymm, le_trans, le_of_eq, mul-one, mul-le-mul_right}
use native.Mathlib.Omega.{arith}
use mathlib.Core.Path.{◌≡◌, refl, sym, ap, subst, ◌∙◌}
use mathlib.Core.Bool.{Bool, true, false, not, cond}
use mathlib.Core.Option.{some}
use mathlib.Core.List.{List, [], ◌∷◌}
use lib.IntN.{ℤ, pos, negsuc}
use lib.Dec.{T, eqb, ltb, ltb→lt, nltb→le, le→leb, lit<, lit≤}
use lib.ListN.{length, get_or, take, drop, replicate, length-replicate}
use lib.Ieee.{Float, nan, inf, fin, up, down}
use lib.Ieee.Bits.{is_true}
use borrow.Author.Tests.{eq-eqb, le-ltb}
use Rattle.laws.specs.Lists.{first}
use Rattle.laws.specs.Numbers.{zero32}
use Rattle.laws.specs.Passes.{passes6, passes7}
use Rattle.laws.proofs.Lists.{length-tab, first-none, first-le, first_all}
use Rattle.config.specs.Config.{valid, nf, z, ne, nb}
use Rattle.refusals.specs.declared.Verdict.{Verdict}
use Rattle.analysis_steps.specs.Buffer.{past_of, buffer_step, buffer_of}
use Rattle.measurement_steps.specs.Energy.{energies}
use Rattle.analysis_lines.specs.Lines.{time_buffer, lines_of}
use Rattle.analysis.specs.declared.Channel.{Channel}
use Rattle.refusals.specs.Refusals.{clearing, told, on_values}
use Rattle.analysis.specs.Analysis.{Lent, Given, kept_of, channel_past, cleared_as, cleared, number, framed, frames, lent}
use Rattle.measurement.specs.Measurement as measurement
use Rattle.measurement.specs.Measurement.{energies_of, measures}
use Rattle.measurement.proofs.Verdicts as verdicts
use Rattle.analysis.proofs.Frames.{says_0, passed}
use Rattle.synthesis.specs.declared.Channel as synthesis_channel
use Rattle.synthesis.specs.Synthesis as synthesis_calls
use Rattle.synthesis.proofs.Frames as synthesis_frames
use Rattle.frame_file.specs.declared.Record.{Record}
use Rattle.frame_file.specs.declared.Record.TheVariants.{Frame, End}
use Rattle.std.specs.Prelude.{Result, Ok, Err}
use Rattle.refusals.specs.declared.Refusal.{Refusal}
use Rattle.frame_file.specs.File.{short_at, signed, samples, record_of, Contents, ended, more, reading, contents}
use Rattle.listing.specs.Listing.{zeros as zeros32}
use Rattle.loudest.specs.Loudest.{heard, paper}
use Rattle.bounds.specs.Within as within
use Rattle.bounds.specs.Within.{Each}
use Rattle.bounds.proofs.Lists.{each_append, each_take, each-drop, each-replicate, each-tab, each_at, each_or, each_of, each_weaken}
use Rattle.bounds.specs.Size.{Size}
use Rattle.bounds.proofs.Bound.{zero_size}
use Rattle.bounds.proofs.Lines.{length-mdct, lines-bound}
use Rattle.bounds.proofs.Energies.{energies-bound}
use Rattle.bounds.proofs.Samples.{six-within, size_finite, memory-bound, samples-bound}
use Rattle.promises.specs.Sequence.{Call, clears, after}
use Rattle.promises.specs.AnalysisChannel.{analysis}
use Rattle.promises.specs.SynthesisChannel.{synthesis}
use Rattle.promises.specs.NoOverflow.{Sample, Sampled, Line, Finite, Lines, Energies, Hears, numbers, FromClear, OnAny, NoOverflow}
use Rattle.promises.specs.Apart.{Pass}
use Rattle.promises.proofs.Kept.{kept}

-- ---- analysis: the samples are 16-bit
zeros : (n : ℕ) → Each Sample (replicate n (pos 0))
zeros n = each-replicate n (pos 0) (record { sfits = lit< tt })

abbrev Held : Channel → Type 0
Held a = Each Sample a.samples

past_each : (a : Channel) → Held a → Each Sample (channel_past a)
past_each a h = each-tab (nf a.config - z a.config) (λ k. get_or a.samples k (pos 0)) (λ k l. each_or (pos 0) k (record { sfits = lit< tt }) h)

buffer-each : (c : ℕ) {past x : List ℤ} → Each Sample past → Each Sample x → Each Sample (time_buffer c past x)
unfolding time_buffer buffer_step past_of buffer_of
buffer-each c p a = each_append (each_append (each_take (nf c - z c) (each-drop (nf c) (each_append (each_append (zeros (nf c)) p) (zeros (z c))))) a) (zeros (z c))

clear_held : (c : ℕ) → Held (cleared c).channel
unfolding cleared
clear_held c = elim (valid c) as (λ b. Held (clearing cleared_as b c).channel) [ true ↦ zeros 300 | false ↦ zeros 300 ]

frame_held : (a : Channel) (x : Lent) → Each Sample x.input → Held a → Held (frames a x).1
unfolding frames kept_of past_of
frame_held a x s h = go (number a.config x)
  where
    go : (n : ℕ) → Held (framed n a x).1
    go zero = let c = a.config in each_append (each_take (nf c - z c) (each-drop (nf c) (buffer-each c (past_each a h) s))) (zeros (300 - (nf c - z c)))
    go (suc n) = h

-- ---- analysis: of the lines that a call on such a channel gives, where it is not refused
abbrev Taken : (ℕ → List Float → Type 0) → Type 0
Taken P = (a : Channel) → T (valid a.config) → Held a → (x : List ℤ) → Each Sample x → P a.config (lines_of a.config (channel_past a) x)

pub accepted : (P : ℕ → List Float → Type 0) → Taken P → OnAny P
unfolding frames
accepted P h a s x i e = go (number a.config x) refl e
  where
    go : (n : ℕ) → number a.config x ≡ n → (framed n a x).0.number ≡ 0 → P a.config (framed n a x).0.lines
    go zero p e = h a (passed a.config x p).0 s x.input i
    go (suc n) p e = absurd (omega arith)

pub from_clear : (P : ℕ → List Float → Type 0) → OnAny P → FromClear P
from_clear P h c a e qs s x i n = h (after analysis a qs) (kept analysis Held Sampled clear_held frame_held c a e s) x i n

lines-each : Taken Lines
unfolding lines_of
lines-each a v s x i = lines-bound a.config v _ (buffer-each a.config (past_each a s) i)

-- and so they pass 6
line_passes : (x : Float) → Line x → T (passes6 x)
unfolding passes6
line_passes nan h = absurd h
line_passes (inf s) h = absurd h
line_passes (fin s m e) h = le→leb _ _ (le_trans (le_of_eq (sym (mul-one (m * up e)))) (le_trans h (mul-le-mul_right (down e) (lit≤ tt))))

pub pass_each : Taken Pass
pass_each a v s x i = each_weaken line_passes (lines-each a v s x i)

pub all_pass : (l : List Float) → Each (λ x. T (passes6 x)) l → length l ≡ first passes6 l
all_pass l h = first-none passes6 l nan (λ k b. is_true _ (each_at nan k h b))

energies-each : Taken Energies
unfolding lines_of
energies-each a v s x i = energies-bound 30 (lit≤ tt) a.config v _ (length-mdct a.config v (time_buffer a.config (channel_past a) x)) (lines-each a v s x i)

-- the loudest band takes them: as many as the configuration has bands, and all pass 7
hears : (c : ℕ) → T (valid c) → (l : List Float) → Each (λ x. T (passes7 x)) (energies_of c l) → (paper (heard c (energies_of c l))).number ≡ 0
unfolding heard energies_of energies
hears c v l a =
    let n : length (energies_of c l) ≡ nb c = length-tab (nb c) _ in
    let all = first-none passes7 (energies_of c l) nan (λ k h. is_true (passes7 (get_or (energies_of c l) k nan)) (each_at nan k a h)) in
    rw (is_true (valid c) v, eq-eqb (length (energies_of c l)) (nb c) n, eq-eqb (first passes7 (energies_of c l)) (length (energies_of c l)) (sym all))

hears_each : Taken Hears
hears_each a v s x i = hears a.config v (lines_of a.config (channel_past a) x) (each_weaken (λ x h. h.0) (energies-each a v s x i))

-- ---- the listing's frames
sample-signed : (n : ℕ) → Sample (signed n)
unfolding signed
sample-signed n = go (ltb n 0x8000) (ltb→lt n 0x8000) (nltb→le n 0x8000)
  where
    go : (b : Bool) → (T b → n < 0x8000) → (T (not b) → 0x8000 ≤ n) → Sample (cond b (pos n) (negsuc (0xffff - n)))
    go true l g = record { sfits = l tt }
    go false l g = let h = g tt in record { sfits = omega arith }

-- a frame of configuration c, as a file's bytes have it
abbrev Whole : ℕ → List ℤ → Type 0
Whole c x = (length x ≡ nf c) × Each Sample x

decoded : (c : ℕ) (f : List ℕ) → Whole c (samples (nf c) f)
unfolding samples
decoded c f = (length-tab (nf c) _, each-tab (nf c) _ (λ k l. sample-signed (short_at f (2 * k))))

whole-frames : (most c : ℕ) (f : List ℕ) → Each (Whole c) (reading most c f).frames
unfolding reading
whole-frames zero c f = within.none
whole-frames (suc most) c f = go (record_of c f) (whole-frames most c)
  where
    go : (r : Result Record Refusal) → ((g : List ℕ) → Each (Whole c) (reading most c g).frames)
        → Each (Whole c)
        (elim r as (λ q. Contents) [
          | Ok found ↦ elim found as (λ q. Contents) [ Frame used ↦ more (samples (nf c) (take used f)) (reading most c (drop used f)) | End ↦ ended (Ok End) ]
          | Err refusal ↦ ended (Err refusal)
        ]).frames
    go (Ok (Frame used)) rest = within.also (decoded c (take used f)) (rest (drop used f))
    go (Ok End) rest = within.none
    go (Err refusal) rest = within.none

-- what the listing's calls are lent for a frame
abbrev lends : Channel → List ℤ → Lent
lends a x = lent x (zeros32 (nf a.config))

abbrev next : Channel → List ℤ → measurement.Lent
next a x = measurement.lent (lines_of a.config (channel_past a) x) (zeros32 (nb a.config)) (replicate (nb a.config) 0)

takes : (a : Channel) → T (valid a.config) → (x : List ℤ) → length x ≡ nf a.config → frames a (lends a x) ≡ framed 0 a (lends a x)
unfolding frames
takes a v x e =
    let c = a.config in
    ap (λ (n : ℕ). framed n a (lends a x)) (sym (says_0 c (lends a x) (is_true (valid c) v) e (length-replicate (nf c) zero32)))

values_pass : (x : List Float) → length x ≤ first passes6 x → told 0 ≡ on_values x
unfolding on_values
values_pass x h = rw (le-ltb (first passes6 x) (length x) h)

measure_takes : (a : Channel) → T (valid a.config) → Held a → (x : List ℤ) → Each Sample x → measures a.config (next a x) ≡ measurement.measured 0 a.config (next a x)
unfolding measures lines_of
measure_takes a v s x i =
    let c = a.config in
    let l = length-mdct c v (time_buffer c (channel_past a) x) in
    let p = verdicts.says-rest c (next a x) refl (ap not (is_true (valid c) v)) l (length-replicate (nb c) zero32) (length-replicate (nb c) 0) (values_pass _ (le_of_eq (all_pass _ (pass_each a v s x i)))) in
    ap (λ (w : Verdict). measurement.measured w.number c (next a x)) (sym p)

-- all along frames, from a channel on
along : (xs : List (List ℤ)) (a : Channel) → T (valid a.config) → Held a → Each (Whole a.config) xs → Each (λ n. n ≡ 0) (numbers a xs)
along [] a v s within.none = within.none
along (x ∷ xs) a v s (within.also w ws) =
    let l = lends a x in
    let t = takes a v x w.0 in
    let m = ap (λ (r : Given × Channel). measures a.config (measurement.lent r.0.lines (zeros32 (nb a.config)) (replicate (nb a.config) 0))) t ∙ measure_takes a v s x w.1 in
    let rest = along xs (framed 0 a l).1 v (subst (λ (r : Given × Channel). Held r.1) t (frame_held a l w.1 s)) ws in
    within.also
    (ap (λ (r : Given × Channel). r.0.number) t)
    (within.also
    (ap (λ (g : measurement.Given). g.number) m)
    (within.also
    (subst (λ (g : measurement.Given). (paper (heard a.config g.energies)).number ≡ 0) (sym m) (hears_each a v s x w.1))
    (subst (λ (r : Given × Channel). Each (λ n. n ≡ 0) (numbers r.1 xs)) (sym t) rest)))

along_file : (c : ℕ) → T (valid c) → (f : List ℕ) → Each (λ n. n ≡ 0) (numbers (cleared c).channel (contents c f).frames)
unfolding cleared contents
along_file c v f = go (valid c) v
  where
    go : (b : Bool) → T b → Each (λ n. n ≡ 0) (numbers (clearing cleared_as b c).channel (contents c f).frames)
    go true t = along _ (clearing cleared_as true c).channel v (zeros 300) (whole-frames (suc (length f)) c f)
    go false t = absurd t

-- ---- synthesis: the memory is at most 2^74
abbrev Kept : synthesis_channel.Channel → Type 0
Kept a = Each (Size 223 1) a.memory

-- the lines of a call that is not refused pass: its test of them comes last
passing : (c : ℕ) (x : synthesis_calls.Lent) → synthesis_calls.number c x ≡ 0 → Each (λ y. T (passes6 y)) x.lines
passing c x e =
    let l = x.lines in
    let lengths = later (not (eqb (length x.samples) (nf c))) 3 (later (not (eqb (length l) (ne c))) 2 (later (not (valid c)) 0 e)) in
    let t : T (not (ltb (first passes6 l) (length l))) = passes (ltb (first passes6 l) (length l)) 5 lengths in
    let all : first passes6 l ≡ length l = le_antisymm (first-le passes6 l) (nltb→le (first passes6 l) (length l) t) in
    each_of nan l (λ k h. subst T (sym (first_all passes6 l nan all k h)) tt)
  where
    later : (b : Bool) (k : ℕ) {v : ℕ} → cond b (suc k) v ≡ 0 → v ≡ 0
    later true k e = absurd (omega arith)
    later false k e = e

    passes : (b : Bool) (k : ℕ) → cond b (suc k) 0 ≡ 0 → T (not b)
    passes true k e = absurd (omega arith)
    passes false k e = tt

clear_kept : (c : ℕ) → Kept (synthesis_calls.cleared c).channel
unfolding synthesis_calls.cleared
clear_kept c = elim (valid c) as (λ b. Kept (clearing synthesis_calls.cleared_as b c).channel) [ true ↦ each-replicate 300 zero32 (zero_size 223 1) | false ↦ each-replicate 300 zero32 (zero_size 223 1) ]

module _ (a : synthesis_channel.Channel) (x : synthesis_calls.Lent) (h : Kept a) where
  by_number : (n : ℕ) → synthesis_calls.number a.config x ≡ n → Kept (synthesis_calls.framed n a x).1
  unfolding synthesis_calls.kept_of
  by_number zero e =
      let c = a.config in
      let p = synthesis_frames.passed c x e in
      each_append (memory-bound c p.is_valid x.lines p.lines_is (passing c x e)) (each-replicate (300 - (nf c - z c)) zero32 (zero_size 223 1))
  by_number (suc n) e = h

  sampled : (n : ℕ) → synthesis_calls.number a.config x ≡ n → (synthesis_calls.framed n a x).0.number ≡ 0 → Each Finite (synthesis_calls.framed n a x).0.samples
  sampled zero e f =
      let c = a.config in
      let p = synthesis_frames.passed c x e in
      let past = each-tab (nf c - z c) (λ k. get_or a.memory k zero32) (λ k l. each_or zero32 k (zero_size 223 1) h) in
      each_weaken size_finite (samples-bound c p.is_valid _ x.lines past p.lines_is (passing c x e))
  sampled (suc n) e f = absurd (omega arith)

frame_kept : (a : synthesis_channel.Channel) (x : synthesis_calls.Lent) → Unit {0} → Kept a → Kept (synthesis_calls.frames a x).1
unfolding synthesis_calls.frames
frame_kept a x u h = by_number a x h (synthesis_calls.number a.config x) refl

any : (qs : List (Call synthesis_calls.Lent)) → Each (λ q. Unit {0}) qs
any [] = within.none
any (q ∷ qs) = within.also tt (any qs)

after_kept : (c : ℕ) (a : synthesis_channel.Channel) → clears synthesis c ≡ some a → (qs : List (Call synthesis_calls.Lent)) → Kept (after synthesis a qs)
after_kept c a e qs = kept synthesis Kept (λ q. Unit {0}) clear_kept frame_kept c a e (any qs)

-- ---- lines that pass 6, wherever they come from
pub passing_7 : (c : ℕ) → T (valid c) → (l : List Float) → length l ≡ nf c → Each (λ x. T (passes6 x)) l → Each (λ x. T (passes7 x)) (energies_of c l)
passing_7 c v l e a = each_weaken (λ x h. h.0) (energies-bound 60 (lit≤ tt) c v l e (each_weaken six-within a))

pub no_overflow : NoOverflow
unfolding synthesis_calls.frames
no_overflow =
    record {
      lines = from_clear Lines (accepted Lines lines-each);
      lines_anywhere = accepted Lines lines-each;
      energies = from_clear Energies (accepted Energies energies-each);
      energies_anywhere = accepted Energies energies-each;
      heard_anywhere = accepted Hears hears_each;
      listed = along_file;
      measured = passing_7;
      measured_heard = λ c v l e a. hears c v l (passing_7 c v l e a);
      samples = λ c a e qs x n. sampled (after synthesis a qs) x (after_kept c a e qs) (synthesis_calls.number (after synthesis a qs).config x) refl n;
      memory = λ c a e qs. each_weaken size_finite (after_kept c a e qs);
    }
