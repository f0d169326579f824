-- What each call of the log answers: the entries' own definitions, on the values that stand in the call's bytes b, kind byte first. Definitions only.
use Rattle.std.specs.Prelude.{ℕ, ◌+◌, ◌*◌, min, false, cond, List, ◌++◌, ℤ, pos, eqb, get_or, take, drop, set, replicate, Float}
use Rattle.std.specs.Float.{binary32}
use Rattle.std.specs.Float.Ieee.{of_bits}
use Rattle.laws.specs.Lists.{tab}
use Rattle.frame_file.specs.File.{short}
use Rattle.call_log.specs.Log.{sample_of, float_of, before, before_peak}
use Rattle.call_text.specs.declared.Extra.{Extra}
use Rattle.call_text.specs.declared.Extra.TheVariants.{Nothing, Flag, Band}
use Rattle.kissfft.specs.Fft as ft
use Rattle.dct_iv.specs.DctIv as dc
use Rattle.analysis.specs.Analysis as an
use Rattle.analysis.specs.declared.Channel as an-channel
use Rattle.measurement.specs.Measurement as me
use Rattle.synthesis.specs.Synthesis as sy
use Rattle.synthesis.specs.declared.Channel as sy-channel
use Rattle.loudest.specs.Loudest.{Heard, heard}
use Rattle.loudest.specs.declared.Loudest.{Loudest}
use Rattle.loudest.specs.declared.Loudest.TheVariants.{Quiet, Loud}
use Rattle.near_nyquist.specs.Sooner.{Asked, asked}
use Rattle.call_made.specs.declared.Answer.{Answer}
use Rattle.call_made.specs.declared.Called.{Called}
use Rattle.call_made.specs.declared.Bench.{Bench}

-- ---- the parts of a call
-- how many values follow a count at the front of b, and how many places a length there asks for
abbrev pub count : List ℕ → ℕ
count b = min (short b) 1024

-- the values after a count
abbrev pub samples : List ℕ → List ℤ
samples b = tab (count b) (sample_of b)

abbrev pub floats : List ℕ → List Float
floats b = tab (count b) (float_of b)

-- the bytes after the values
abbrev pub past_samples : List ℕ → List ℕ
past_samples b = drop (2 + 2 * count b) b

abbrev pub past_floats : List ℕ → List ℕ
past_floats b = drop (2 + 4 * count b) b

-- ---- the output areas
-- an area before a call
abbrev pub area : List Float
area = tab 1024 before

-- a peaks' area before a call
abbrev pub peaks : List ℕ
peaks = tab 1024 before_peak

-- the part of an area that a length at the front of b lends
abbrev pub lent : {A : Type 0} → List A → List ℕ → List A
lent room b = take (count b) room

-- the area when that part has become x
abbrev pub whole : {A : Type 0} → List A → List ℕ → List A → List A
whole room b x = x ++ drop (count b) room

-- ---- the answers
abbrev pub answer_of : ℕ → ℕ → Extra → List Float → ℕ → List Float → ℕ → List ℕ → ℕ → Answer
answer_of number index e x m y n z o = record { told = record { number = number; index = index }; extra = e; x = x; m = m; y = y; n = n; z = z; o = o }

-- with one output area and peaks, with one, and with none
abbrev pub with_peaks : ℕ → ℕ → Extra → List Float → ℕ → List ℕ → ℕ → Answer
with_peaks number index e x m z o = answer_of number index e x m area 0 z o

abbrev pub one : ℕ → ℕ → Extra → List Float → ℕ → Answer
one number index e x m = with_peaks number index e x m peaks 0

abbrev pub plain : ℕ → Answer
plain number = one number 0 Nothing area 0

abbrev pub called : {C : Type 0} → C → Answer → Called C
called ch a = record { channel = ch; answer = a }

-- ---- the calls, kind by kind
-- 1 and 3: "A refused clear leaves the old channel": of the number and the channel that a clear gives
abbrev pub after_clear : {C : Type 0} → C → ℕ → C → Called C
after_clear old number fresh = called (cond (eqb number 0) fresh old) (plain number)

unfoldable pub clear_analysis : an-channel.Channel → List ℕ → Called an-channel.Channel
clear_analysis old b = let c = an.cleared (get_or b 1 0) in after_clear old c.number c.channel

unfoldable pub clear_synthesis : sy-channel.Channel → List ℕ → Called sy-channel.Channel
clear_synthesis old b = let c = sy.cleared (get_or b 1 0) in after_clear old c.number c.channel

-- 11: "the frame to lines alone": on the samples x, with the length of the lines' area at the front of l
unfoldable pub frame_on : an-channel.Channel → List ℤ → List ℕ → Called an-channel.Channel
frame_on ch x l =
    let f = an.frames ch (an.lent x (lent area l)) in
    called f.1 (one f.0.number 0 Nothing (whole area l f.0.lines) (count l))

abbrev pub frame : an-channel.Channel → List ℕ → Called an-channel.Channel
frame ch b = frame_on ch (samples (drop 1 b)) (past_samples (drop 1 b))

-- 12: "the measurement alone": at the configuration c, of the lines x, with the lengths of the energies' and the peaks' areas at the front of l
unfoldable pub measure_on : ℕ → List Float → List ℕ → Answer
measure_on c x l =
    let g = me.measures c (me.lent x (lent area l) (lent peaks (drop 2 l))) in
    with_peaks g.number g.index (Flag g.flag) (whole area l g.energies) (count l) (whole peaks (drop 2 l) g.peaks) (count (drop 2 l))

abbrev pub measure : List ℕ → Answer
measure b = measure_on (get_or b 1 0) (floats (drop 2 b)) (past_floats (drop 2 b))

-- 2: "both in turn: the frame to lines, and where that is accepted the measurement of its lines at the channel's configuration". The second, after a
-- frame's answer a, whose lines are the places of its area: where the frame was refused no call, and the areas of energies and peaks untouched
unfoldable pub measure_after : ℕ → Answer → List ℕ → Answer
measure_after c a l =
    cond (eqb a.told.number 0) (measure_on c (take a.m a.x) l)
    (with_peaks a.told.number a.told.index (Flag false) area (count l) peaks (count (drop 2 l)))

-- "NUMBER and INDEX are those of the first of the two calls that is refused, else 0; areas as the calls left them"
abbrev pub both : Answer → Answer → Answer
both a g = answer_of g.told.number g.told.index g.extra a.x a.m g.x g.m g.z g.o

unfoldable pub analyse : an-channel.Channel → List ℕ → Called an-channel.Channel
analyse ch b =
    let f = frame ch b in
    called f.channel (both f.answer (measure_after ch.config f.answer (drop 2 (past_samples (drop 1 b)))))

-- 4: on the lines x, with the length of the area at the front of l
unfoldable pub play_on : sy-channel.Channel → List Float → List ℕ → Called sy-channel.Channel
play_on ch x l =
    let f = sy.frames ch (sy.lent x (lent area l)) in
    called f.1 (one f.0.number f.0.index Nothing (whole area l f.0.samples) (count l))

abbrev pub play : sy-channel.Channel → List ℕ → Called sy-channel.Channel
play ch b = play_on ch (floats (drop 1 b)) (past_floats (drop 1 b))

-- 5: of the real parts x and the imaginary parts y, with the lengths of the two areas at the front of l
unfoldable pub fft_on : List ℕ → List Float → List Float → List ℕ → Answer
fft_on b x y l =
    let a = ft.answer (short (drop 1 b)) (eqb (get_or b 3 0) 1) x y (lent area l) (lent area (drop 2 l)) in
    answer_of a.judged.number a.judged.index Nothing (whole area l a.re) (count l) (whole area (drop 2 l) a.im) (count (drop 2 l)) peaks 0

abbrev pub fft : List ℕ → Answer
fft b = let x = drop 4 b in let y = past_floats x in fft_on b (floats x) (floats y) (past_floats y)

-- 6: the values are in the area itself
unfoldable pub dct : List ℕ → Answer
dct b =
    let x = drop 3 b in
    let a = dc.answer (short (drop 1 b)) (floats x) in
    one a.judged.number a.judged.index Nothing (whole area x a.buf) (count x)

-- 7: the area has the product, where it is loud
abbrev pub told : Heard → Loudest → Answer
told h Quiet = one h.number h.index Nothing area 0
told h (Loud band product) = one h.number h.index (Band band) (set area 0 product) 1

unfoldable pub loudest_on : ℕ → List Float → Answer
loudest_on c x = let h = heard c x in told h h.loudest

abbrev pub loudest : List ℕ → Answer
loudest b = loudest_on (get_or b 1 0) (floats (drop 2 b))

-- 14: "EXTRA the answer 0 or 1, then always a line `read N`", whose place is the number of bands read
abbrev pub asked_as : Asked → Answer
asked_as a = with_peaks a.number a.index (Flag a.answer) area 0 (set peaks 0 a.read) 1

unfoldable pub ask_on : ℕ → List Float → Answer
ask_on c x = asked_as (asked c x)

abbrev pub ask : List ℕ → Answer
ask b = ask_on (get_or b 1 0) (floats (drop 2 b))

-- 9 and 10: "at most as many as the channel's array has; the rest 0"
abbrev pub places : List ℕ → ℕ
places b = min (short b) 300

unfoldable pub set_analysis : List ℕ → Called an-channel.Channel
set_analysis b =
    let x = drop 2 b in
    called (record { config = get_or b 1 0; samples = tab (places x) (sample_of x) ++ drop (places x) (replicate 300 (pos 0)) }) (plain 0)

unfoldable pub set_synthesis : List ℕ → Called sy-channel.Channel
set_synthesis b =
    let x = drop 2 b in
    called (record { config = get_or b 1 0; memory = tab (places x) (float_of x) ++ drop (places x) (replicate 300 (of_bits binary32 0)) }) (plain 0)

-- ---- a call of any kind
abbrev pub bench_of : an-channel.Channel → sy-channel.Channel → Answer → Bench
bench_of a s answer = record { analysis = a; synthesis = s; answer = answer }

-- "There is one channel of each kind, at the start what a refused clear gives"
unfoldable pub fresh : Bench
fresh = bench_of (an.cleared 255).channel (sy.cleared 255).channel (plain 0)

abbrev pub with_analysis : Bench → Called an-channel.Channel → Bench
with_analysis s x = bench_of x.channel s.synthesis x.answer

abbrev pub with_synthesis : Bench → Called sy-channel.Channel → Bench
with_synthesis s x = bench_of s.analysis x.channel x.answer

abbrev pub with_answer : Bench → Answer → Bench
with_answer s x = bench_of s.analysis s.synthesis x

-- a call on no channel; 8 makes no call, and no other kind is one
unfoldable pub on_none : Bench → ℕ → List ℕ → Bench
on_none s kind b =
    cond (eqb kind 5) (with_answer s (fft b))
    (cond (eqb kind 6) (with_answer s (dct b))
    (cond (eqb kind 7) (with_answer s (loudest b))
    (cond (eqb kind 12) (with_answer s (measure b)) (cond (eqb kind 14) (with_answer s (ask b)) s))))

unfoldable pub on_synthesis : Bench → ℕ → List ℕ → Bench
on_synthesis s kind b =
    cond (eqb kind 3) (with_synthesis s (clear_synthesis s.synthesis b))
    (cond (eqb kind 4) (with_synthesis s (play s.synthesis b)) (cond (eqb kind 10) (with_synthesis s (set_synthesis b)) (on_none s kind b)))

unfoldable pub made : Bench → ℕ → List ℕ → Bench
made s kind b =
    cond (eqb kind 1) (with_analysis s (clear_analysis s.analysis b))
    (cond (eqb kind 2) (with_analysis s (analyse s.analysis b))
    (cond (eqb kind 9) (with_analysis s (set_analysis b)) (cond (eqb kind 11) (with_analysis s (frame s.analysis b)) (on_synthesis s kind b))))
