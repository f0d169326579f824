-- What the code of each call computes is its definition's answer: read for read, area for area. Assumes nothing.
use mathlib.Core.Path.{◌≡◌, refl, sym, ap, ◌∙◌}
use mathlib.Core.Bool.{Bool, false, cond}
use mathlib.Core.List.{List, ◌++◌}
use mathlib.Core.Logic.{◌⊎◌, inl, inr}
use Prim.Native.Nat.{ℕ}
use lib.IntN.{ℤ}
use lib.Ieee.{Float}
use lib.Dec.{eqb}
use lib.ListN.{length, get_or, take, drop, set}
use borrow.Author.Tests.{eq-eqb, ne_eqb}
use Rattle.std.specs.Prelude.{Result, Ok, Err}
use Rattle.std.specs.Result.{result_unwrap_or}
use Rattle.refusals.specs.declared.Verdict.{Verdict}
use Rattle.refusals.specs.declared.Refusal.{Refusal}
use Rattle.refusals.specs.declared.Answered.{Answered}
use Rattle.refusals.specs.Refusals.{told_by}
use Rattle.laws.specs.Lists.{tab}
use Rattle.frame_file.specs.File.{short}
use Rattle.call_log.specs.Log.{float_of}
use Rattle.call_text.specs.declared.Extra.TheVariants.{Nothing, Flag, Band}
use Rattle.kissfft.specs.Fft as ft
use Rattle.dct_iv.specs.DctIv as dc
use Rattle.analysis.specs.Analysis as an
use Rattle.analysis.specs.declared.Channel as an-channel
use Rattle.measurement.specs.Measurement as me
use Rattle.synthesis.specs.Synthesis as sy
use Rattle.synthesis.specs.declared.Channel as sy-channel
use Rattle.loudest.specs.Loudest as lo
use Rattle.loudest.specs.declared.Loudest.{Loudest}
use Rattle.loudest.specs.declared.Loudest.TheVariants.{Quiet, Loud}
use Rattle.near_nyquist.specs.Sooner as near
use Rattle.near_nyquist.specs.declared.Sooner.{Sooner}
use Rattle.call_made.specs.declared.Answer.{Answer}
use Rattle.call_made.specs.declared.Called.{Called}
use Rattle.call_made.specs.Made.{count, area, peaks, lent, answer_of, with_peaks, one, plain, called, after_clear, frame_on, measure_on, measure_after, play_on, fft_on, dct, told, loudest_on, asked_as}
use Rattle.call_made.proofs.Lends.{Lends}

-- n places of an output area, and of peaks
abbrev pub Area : List ℕ → ℕ → List Float → Type 0
Area = Lends 1024 area

abbrev pub Peaks : List ℕ → ℕ → List ℕ → Type 0
Peaks = Lends 1024 peaks

-- a call on x, with m places of a room lent: `make` is its answer, from what the call gave
module _ {X G R : Type 0} (call : X → List Float → G) (make : G → ℕ → List Float → R) where
  lent_is : {x y : X} {l : List ℕ} {m : ℕ} {room : List Float} {g : G} → y ≡ x → Area l m room → call y (take m room) ≡ g → make g m room ≡ make (call x (lent area l)) (count l) area
  lent_is {m = m} {room = room} ex u e =
      ap (λ (g : G). make g m room) (sym e) ∙ (λ j. make (call (ex j) (take (u.asked j) (u.new j))) (u.asked j) (u.new j))

-- the same with places of two rooms lent; `made` is the call as the code makes it
module _ {A G R : Type 0} {fresh : List A} (make : G → ℕ → List Float → ℕ → List A → R) where
  both-lent : {call made : List Float → List A → G} {k l : List ℕ} {m n : ℕ} {room : List Float} {other : List A} {g : G}
      → made ≡ call
      → Area k m room
      → Lends 1024 fresh l n other
      → made (take m room) (take n other) ≡ g
      → make g m room n other ≡ make (call (lent area k) (lent fresh l)) (count k) area (count l) fresh
  both-lent {m = m} {n = n} {room = room} {other = other} ec u v e =
      ap (λ (g : G). make g m room n other) (sym e)
      ∙ (λ j. make (ec j (take (u.asked j) (u.new j)) (take (v.asked j) (v.new j))) (u.asked j) (u.new j) (v.asked j) (v.new j))

-- 4: with what a frame gave; v is what is told of it
abbrev pub played_as : sy.Given × sy-channel.Channel → ℕ → List Float → Called sy-channel.Channel
played_as f m room = called f.1 (one f.0.number f.0.index Nothing (f.0.samples ++ drop m room) m)

pub played-is : (ch : sy-channel.Channel) {x y : List Float} {l : List ℕ} {m : ℕ} {room : List Float} (r : Answered sy-channel.Channel) (out : List Float) {v : Verdict} {a : Answer} →
    y ≡ x → Area l m room → sy.frames ch (sy.lent y (take m room)) ≡ sy.outcome r out → v ≡ told_by r.told →
    a ≡ one v.number v.index Nothing (out ++ drop m room) m → called r.channel a ≡ play_on ch x l
unfolding play_on
played-is ch {m = m} {room = room} r out ex u e ev ea =
    ap (called r.channel) (ea ∙ ap (λ (v : Verdict). one v.number v.index Nothing (out ++ drop m room) m) ev)
    ∙ lent_is (λ y p. sy.frames ch (sy.lent y p)) played_as ex u e

-- 11: the same
abbrev pub framed_as : an.Given × an-channel.Channel → ℕ → List Float → Called an-channel.Channel
framed_as f m room = called f.1 (one f.0.number 0 Nothing (f.0.lines ++ drop m room) m)

pub framed_is : (ch : an-channel.Channel) {x y : List ℤ} {l : List ℕ} {m : ℕ} {room : List Float} (r : Answered an-channel.Channel) (out : List Float) {v : Verdict} {a : Answer} →
    y ≡ x → Area l m room → an.frames ch (an.lent y (take m room)) ≡ an.outcome r out → v ≡ told_by r.told →
    a ≡ one v.number 0 Nothing (out ++ drop m room) m → called r.channel a ≡ frame_on ch x l
unfolding frame_on
framed_is ch {m = m} {room = room} r out ex u e ev ea =
    ap (called r.channel) (ea ∙ ap (λ (v : Verdict). one v.number 0 Nothing (out ++ drop m room) m) ev)
    ∙ lent_is (λ y p. an.frames ch (an.lent y p)) framed_as ex u e

-- 12: with what a measurement gave
abbrev pub measured_as : me.Given → ℕ → List Float → ℕ → List ℕ → Answer
measured_as g m room o places = with_peaks g.number g.index (Flag g.flag) (g.energies ++ drop m room) m (g.peaks ++ drop o places) o

flag-is : (r : Result Bool Refusal) → result_unwrap_or r false ≡ me.flagged r
flag-is (Ok flag) = refl
flag-is (Err e) = refl

pub measured-is : (c : ℕ) (x : List Float) {l : List ℕ} {m o : ℕ} {room : List Float} {places : List ℕ} (r : Result Bool Refusal) (out : List Float) (tops : List ℕ) {v : Verdict} {flag : Bool} {a : Answer} →
    Area l m room → Peaks (drop 2 l) o places → me.outcome r out tops ≡ me.measures c (me.lent x (take m room) (take o places)) →
    v ≡ told_by r → flag ≡ result_unwrap_or r false →
    a ≡ with_peaks v.number v.index (Flag flag) (out ++ drop m room) m (tops ++ drop o places) o → a ≡ measure_on c x l
unfolding measure_on
measured-is c x {m = m} {o = o} {room = room} {places = places} r out tops u v e ev ef ea =
    ea
    ∙ (λ j. with_peaks (ev j).number (ev j).index (Flag ((ef ∙ flag-is r) j)) (out ++ drop m room) m (tops ++ drop o places) o)
    ∙ both-lent measured_as (λ _ p q. me.measures c (me.lent x p q)) u v (sym e)

-- 2: the measurement after a frame's answer
pub unmeasured-is : (c : ℕ) (a : Answer) (l : List ℕ) → (a.told.number ≡ 0 → ⊥) →
    with_peaks a.told.number a.told.index (Flag false) area (count l) peaks (count (drop 2 l)) ≡ measure_after c a l
unfolding measure_after
unmeasured-is c a l h = simp (ne_eqb a.told.number 0 h)

pub measured-after : (c : ℕ) (a : Answer) (l : List ℕ) → a.told.number ≡ 0 → measure_on c (take a.m a.x) l ≡ measure_after c a l
unfolding measure_after
measured-after c a l h = simp (eq-eqb a.told.number 0 h)

-- 5: with what the transform gave
abbrev transformed_as : List ℕ → ft.Answer → ℕ → List Float → ℕ → List Float → Answer
transformed_as z a m room n other = answer_of a.judged.number a.judged.index Nothing (a.re ++ drop m room) m (a.im ++ drop n other) n z 0

pub transformed-is : (b : List ℕ) (x : List Float) {y w : List Float} {l z : List ℕ} {m n size : ℕ} {room other : List Float} {inverse : Bool} (r : Verdict) (p q : List Float) →
    size ≡ short (drop 1 b) → inverse ≡ eqb (get_or b 3 0) 1 → w ≡ y → Area l m room → Area (drop 2 l) n other → z ≡ peaks →
    ft.outcome r p q ≡ ft.answer size inverse x w (take m room) (take n other) → {t : Verdict} → t ≡ r →
    answer_of t.number t.index Nothing (p ++ drop m room) m (q ++ drop n other) n z 0 ≡ fft_on b x y l
unfolding fft_on
transformed-is b x {z = z} {m = m} {n = n} {room = room} {other = other} r p q es ei ey u v ez e et =
    ap (λ (t : Verdict). answer_of t.number t.index Nothing (p ++ drop m room) m (q ++ drop n other) n z 0) et
    ∙ ap (λ (z : List ℕ). transformed_as z (ft.outcome r p q) m room n other) ez
    ∙ both-lent (transformed_as peaks) (λ j p q. ft.answer (es j) (ei j) x (ey j) p q) u v (sym e)

-- 6: with what the DCT left
abbrev dct_as : dc.Answer → ℕ → List Float → Answer
dct_as a m room = one a.judged.number a.judged.index Nothing (a.buf ++ drop m room) m

pub dct-is : (b : List ℕ) {m : ℕ} {room : List Float} (r : Verdict) (p : List Float) {a : Answer} →
    Area (drop 3 b) m room → dc.outcome r p ≡ dc.answer (short (drop 1 b)) (tab (length (take m room)) (float_of (drop 3 b))) → {t : Verdict} → t ≡ r →
    a ≡ one t.number t.index Nothing (p ++ drop m room) m → a ≡ dct b
unfolding dct
dct-is b {m = m} {room = room} r p u e et ea =
    ea
    ∙ ap (λ (t : Verdict). one t.number t.index Nothing (p ++ drop m room) m) et
    ∙ ap (λ (a : dc.Answer). dct_as a m room) e
    ∙ (λ j. dct_as (dc.answer (short (drop 1 b)) (tab (u.long j) (float_of (drop 3 b)))) (u.asked j) (u.new j))

-- 1 and 3: the fresh channel where the clear is accepted, and else the old one
pub after-is : {C : Type 0} (old new channel : C) (n k : ℕ) → n ≡ k → ((n ≡ 0) × (channel ≡ new)) ⊎ ((n ≡ 0 → ⊥) × (channel ≡ old)) → called channel (plain n) ≡ after_clear old k new
after-is old new channel n k en (inl (z, ec)) =
    (λ j. called (ec j) (plain n)) ∙ (λ j. called (cond (sym (eq-eqb n 0 z) j) new old) (plain n)) ∙ ap (λ (n : ℕ). after_clear old n new) en
after-is old new channel n k en (inr (z, ec)) =
    (λ j. called (ec j) (plain n)) ∙ (λ j. called (cond (sym (ne_eqb n 0 z) j) new old) (plain n)) ∙ ap (λ (n : ℕ). after_clear old n new) en

-- 7: what was heard at the configuration c, which is d, of the energies x, which are y; r is the code's answer
abbrev pub heard_as : Result Loudest Refusal → Answer
heard_as r = told (lo.outcome r) (lo.outcome r).loudest

-- the same of what is told of it and what was found
abbrev told_with : Verdict → Loudest → Answer
told_with v Quiet = one v.number v.index Nothing area 0
told_with v (Loud b p) = one v.number v.index (Band b) (set area 0 p) 1

with-is : (r : Result Loudest Refusal) → told_with (told_by r) (result_unwrap_or r Quiet) ≡ heard_as r
with-is (Ok Quiet) = refl
with-is (Ok (Loud b p)) = refl
with-is (Err e) = refl

module _ (r : Result Loudest Refusal) {v : Verdict} {found : Loudest} {room : List Float} (ev : v ≡ told_by r) (ef : found ≡ result_unwrap_or r Quiet) (er : room ≡ area) where
  pub loud-is : {b : ℕ} {p : Float} → found ≡ Loud b p → one v.number v.index (Band b) (set room 0 p) 1 ≡ heard_as r
  loud-is {b} {p} e =
      (λ j. one v.number v.index (Band b) (set (er j) 0 p) 1)
      ∙ ap (told_with v) (sym e)
      ∙ (λ j. told_with (ev j) (ef j))
      ∙ with-is r

  pub quiet-is : found ≡ Quiet → one v.number v.index Nothing room 0 ≡ heard_as r
  quiet-is e =
      (λ j. one v.number v.index Nothing (er j) 0)
      ∙ ap (told_with v) (sym e)
      ∙ (λ j. told_with (ev j) (ef j))
      ∙ with-is r

pub heard-is : (r : Result Loudest Refusal) {a : Answer} {c d : ℕ} {x y : List Float} → a ≡ heard_as r → lo.outcome r ≡ lo.heard c x → c ≡ d → x ≡ y → a ≡ loudest_on d y
unfolding loudest_on
heard-is r ea eh ec ex = ea ∙ ap (λ (g : lo.Heard). told g g.loudest) (eh ∙ (λ j. lo.heard (ec j) (ex j)))

-- 14: what the sooner flag answered; r is the code's answer
pub asked-is : (r : Result Sooner Refusal) → with_peaks (told_by r).number (told_by r).index (Flag (result_unwrap_or r (record { answer = false; read = 0 })).answer) area 0 (set peaks 0 (result_unwrap_or r (record { answer = false; read = 0 })).read) 1 ≡ asked_as (near.outcome r)
asked-is (Ok sooner) = refl
asked-is (Err e) = refl
