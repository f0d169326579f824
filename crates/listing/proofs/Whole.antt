-- THE THEOREM: the header's line, a line for each record and the last line together are the listing of the file, for any file of fewer than
-- 2^64 frames. A step reads no more than a frame's bytes, and the header's no more than six. Assumes nothing.
use mathlib.Core.Path.{◌≡◌, refl, sym, ap, ◌∙◌, subst}
use mathlib.Core.Logic.{⊎_elim}
use mathlib.Core.Bool.{Bool, true, false, cond}
use mathlib.Core.List.{List, ◌++◌, append_assoc}
use Prim.Native.Nat.{ℕ, zero, suc, ◌+◌, ◌-◌, ◌^◌, ◌≤◌, ◌<◌}
use native.Mathlib.Nat.{not-suc-le-zero, zero-add, add-zero}
use native.Mathlib.Numerals.{add-one}
use native.Mathlib.Omega.{arith}
use lib.Dec.{T, ltb, eqb}
use lib.IntN.{ℤ}
use lib.ListN.{length, take, drop, length-drop}
use lib.Seq.{take_all, take-take, length-take-le, get_or-take}
use borrow.Author.Tests.{lt-ltb, le-ltb, ne_eqb, ltb-true, ltb-false}
use Rattle.config.specs.Config.{valid, nf}
use Rattle.config.proofs.Sound.{sound}
use Rattle.analysis.specs.declared.Channel.{Channel}
use Rattle.refusals.specs.Refusals.{clearing}
use Rattle.analysis.specs.Analysis.{Lent, number, framed as called, frames, lent, cleared, cleared_as}
use Rattle.frame_file.specs.declared.Header.{Header}
use Rattle.frame_file.specs.declared.Record.{Record}
use Rattle.frame_file.specs.declared.Record.TheVariants.{Frame, End}
use Rattle.std.specs.Prelude.{Result, Ok, Err}
use Rattle.refusals.specs.declared.Refusal.{Refusal}
use Rattle.refusals.specs.declared.Refusal.TheVariants.{BadConfig, ShortFile, BadMark, BadVersion}
use Rattle.frame_file.specs.File.{lmf, byte, short_at, samples, marked, header_of, frame_bytes, record_of, good as good_header, Contents, more, ended, reading, contents}
use Rattle.listing.specs.declared.Lister.{Lister}
use Rattle.listing.specs.declared.Stepped.{Stepped}
use Rattle.listing.specs.Text.{first_line}
use Rattle.listing.specs.Listing.{zeros, listened, line_of, frame_lines, last_line, listed, listing}
use Rattle.listing.specs.Steps.{start, told, opened, opening, counted, framed, found, step, written, whole_frames}
use Rattle.listing.specs.Whole.{Listed}
use Rattle.laws.proofs.Bools.{outcomes}
use Rattle.listing.proofs.Found.{used_by, whole}
use Rattle.listing.proofs.Lines.{said-text}

-- ---- the configuration stays
stays : (n : ℕ) (ch : Channel) (x : Lent) → (called n ch x).1.config ≡ ch.config
stays zero ch x = refl
stays (suc n) ch x = refl

config_stays : (ch : Channel) (x : List ℤ) → (listened ch x).channel.config ≡ ch.config
unfolding listened frames
config_stays ch x =
    let call = lent x (zeros (nf ch.config)) in
    stays (number ch.config call) ch call

clearing_config : (b : Bool) (c : ℕ) → T b → (clearing cleared_as b c).channel.config ≡ c
clearing_config true c v = refl
clearing_config false c v = absurd v

cleared_config : (c : ℕ) → T (valid c) → (cleared c).channel.config ≡ c
unfolding cleared
cleared_config c v = clearing_config (valid c) c v

-- ---- a step that used nothing ends, another goes on
ends : (n : ℕ) (line f : List ℕ) (l : Lister) → written n (told line 0 l) f ≡ line
unfolding written
ends zero line f l = said-text line
ends (suc n) line f l = said-text line

goes_on : (n : ℕ) (line f : List ℕ) (used : ℕ) (l : Lister) → 0 < used
    → written (suc n) (told line used l) f ≡ line ++ written n (step l (drop used f)) (drop used f)
unfolding written
goes_on n line f used l h = rw (ne_eqb used 0 (λ e. omega arith), written) (ap (λ (s : List ℕ). s ++ written n (step l (drop used f)) (drop used f)) (said-text line))

counts : (n : ℕ) → n < 2 ^ 64 - 1 → counted n ≡ suc n
unfolding counted
counts n h = rw (lt-ltb n (2 ^ 64 - 1) h) (add-one n)

-- ---- a step and the file's contents by the record that stands there
abbrev standing_at : ℕ → Lister → List ℕ → Record → Stepped
standing_at c l g (Frame used) = framed l used (listened l.channel (samples (nf c) (take used g)))
standing_at c l g End = found l g (Ok End)

abbrev found_at : ℕ → Lister → List ℕ → Result Record Refusal → Stepped
found_at c l g (Ok r) = standing_at c l g r
found_at c l g (Err e) = found l g (Err e)

same_standing : (l : Lister) (g : List ℕ) (r : Record) → found l g (Ok r) ≡ standing_at l.channel.config l g r
same_standing l g (Frame used) = refl
same_standing l g End = refl

same_found : (l : Lister) (g : List ℕ) (r : Result Record Refusal) → found l g r ≡ found_at l.channel.config l g r
same_found l g (Ok r) = same_standing l g r
same_found l g (Err e) = refl

step-at : (c : ℕ) (l : Lister) (g : List ℕ) → l.channel.config ≡ c → step l g ≡ found_at c l g (record_of c g)
unfolding step
step-at c l g e = subst (λ (k : ℕ). step l g ≡ found_at k l g (record_of k g)) e (same_found l g (record_of l.channel.config g))

abbrev rest_of : ℕ → ℕ → List ℕ → Record → Contents
rest_of m c g (Frame used) = more (samples (nf c) (take used g)) (reading m c (drop used g))
rest_of m c g End = ended (Ok End)

abbrev rest : ℕ → ℕ → List ℕ → Result Record Refusal → Contents
rest m c g (Ok r) = rest_of m c g r
rest m c g (Err e) = ended (Err e)

reading_by : (m c : ℕ) (g : List ℕ) (r : Result Record Refusal) → record_of c g ≡ r → reading (suc m) c g ≡ rest m c g r
unfolding reading
reading_by m c g (Ok (Frame used)) e = rw (e, reading)
reading_by m c g (Ok End) e = rw (e, reading)
reading_by m c g (Err q) e = rw (e, reading)

-- ---- the lines from a record on
abbrev tail : Lister → Contents → List ℕ
tail l k = frame_lines l.channel l.count k.frames ++ last_line (length k.frames + l.count) k.ending

abbrev Run : ℕ → Type 0
Run m =
    (n c : ℕ) (l : Lister) (g : List ℕ) → l.channel.config ≡ c → length g < m → length g ≤ n
    → length (reading m c g).frames + l.count < 2 ^ 64 → written n (step l g) g ≡ tail l (reading m c g)

shift : (a b : ℕ) → a + suc b ≡ suc a + b
shift a b = omega arith

module _ (m : ℕ) (go : Run m) (c : ℕ) (l : Lister) (g : List ℕ) (e : l.channel.config ≡ c) (short : length g < suc m) where
  on_frame : (n used : ℕ) → record_of c g ≡ Ok (Frame used) → length g ≤ suc n → length (rest m c g (Ok (Frame used))).frames + l.count < 2 ^ 64
      → written (suc n) (found_at c l g (Ok (Frame used))) g ≡ tail l (rest m c g (Ok (Frame used)))
  unfolding frame_lines
  on_frame n used q room few =
      let w = whole c g used q in
      let s = sound c w.known in
      let x = samples (nf c) (take used g) in
      let h = listened l.channel x in
      let next : Lister = record { channel = h.channel; count = counted l.count } in
      let g' = drop used g in
      let k = reading m c g' in
      let some : 0 < used = omega (arith, w.uses, s.even, s.half_pos) in
      let less : length g' ≡ length g - used = length-drop used g in
      let one : counted l.count ≡ suc l.count = counts l.count (omega arith) in
      goes_on n (line_of l.count h) g used next some
      ∙ ap (λ (t : List ℕ). line_of l.count h ++ t)
      (go n c next g' (config_stays l.channel x ∙ e) (omega (arith, w.uses, w.room)) (omega (arith, w.uses, w.room)) (omega arith)
      ∙ ap (λ (z : ℕ). frame_lines h.channel z k.frames ++ last_line (length k.frames + z) k.ending) one
      ∙ ap (λ (z : ℕ). frame_lines h.channel (suc l.count) k.frames ++ last_line z k.ending) (shift (length k.frames) l.count))
      ∙ sym (append_assoc (line_of l.count h) (frame_lines h.channel (suc l.count) k.frames) (last_line (suc (length k.frames) + l.count) k.ending))

  -- a frame has bytes, so there is a turn for it
  on_any : (n used : ℕ) → record_of c g ≡ Ok (Frame used) → length g ≤ n → length (rest m c g (Ok (Frame used))).frames + l.count < 2 ^ 64
      → written n (found_at c l g (Ok (Frame used))) g ≡ tail l (rest m c g (Ok (Frame used)))
  on_any zero used q room few =
      let w = whole c g used q in
      let s = sound c w.known in
      absurd (omega (arith, w.room, s.even, s.half_pos))
  on_any (suc n) used q room few = on_frame n used q room few

  by_record : (n : ℕ) (r : Result Record Refusal) → record_of c g ≡ r → length g ≤ n → length (rest m c g r).frames + l.count < 2 ^ 64
      → written n (found_at c l g r) g ≡ tail l (rest m c g r)
  unfolding frame_lines
  by_record n (Ok (Frame used)) q room few = on_any n used q room few
  by_record n (Ok End) q room few = ends n _ g l ∙ ap (λ (z : ℕ). last_line z (Ok End)) (sym (zero-add l.count))
  by_record n (Err e) q room few = ends n _ g l

run : (m : ℕ) → Run m
run zero n c l g e short room few = absurd (not-suc-le-zero short)
run (suc m) n c l g e short room few =
    let k = reading_by m c g (record_of c g) refl in
    ap (λ (s : Stepped). written n s g) (step-at c l g e)
    ∙ by_record m (run m) c l g e short n (record_of c g) refl room (subst (λ (t : Contents). length t.frames + l.count < 2 ^ 64) k few)
    ∙ ap (tail l) (sym k)

-- ---- a good header's configuration
abbrev good? : Result Header Refusal → ℕ
good? (Ok h) = 1
good? (Err e) = 0

abbrev config_of : Result Header Refusal → ℕ
config_of (Ok h) = h.config
config_of (Err e) = 0

decided : (a b d k : Bool) (v c : ℕ) (h : Header) → cond a (Err ShortFile) (cond b (cond d (cond k (good_header v c) (Err BadConfig)) (Err BadVersion)) (Err BadMark)) ≡ Ok h → (k ≡ true) × (c ≡ h.config)
decided true b d k v c h q = let o : ◌≡◌ {A = ℕ} 0 1 = ap good? q in absurd (omega arith)
decided false false d k v c h q = let o : ◌≡◌ {A = ℕ} 0 1 = ap good? q in absurd (omega arith)
decided false true false k v c h q = let o : ◌≡◌ {A = ℕ} 0 1 = ap good? q in absurd (omega arith)
decided false true true false v c h q = let o : ◌≡◌ {A = ℕ} 0 1 = ap good? q in absurd (omega arith)
decided false true true true v c h q = (refl, ap config_of q)

good_valid : (f : List ℕ) (h : Header) → header_of lmf f ≡ Ok h → T (valid h.config)
unfolding header_of
good_valid f h q =
    let d = decided (ltb (length f) 6) (marked lmf f) (eqb (short_at f 3) 1) (valid (byte f 5)) (short_at f 3) (byte f 5) h q in
    subst (λ (k : ℕ). T (valid k)) d.1 (subst T (sym d.0) tt)

-- ---- the whole file
good : (f : List ℕ) (h : Header) → T (valid h.config) → whole_frames (Ok h) f < 2 ^ 64 → written (suc (length f)) (opened (Ok h)) f ≡ listed (Ok h) f
unfolding contents
good f h known few =
    let c = h.config in
    let g = drop 6 f in
    let k = reading (suc (length g)) c g in
    goes_on (length f) (first_line h.version c) f 6 (start c) (omega arith)
    ∙ ap (λ (t : List ℕ). first_line h.version c ++ t)
    (run (suc (length g)) (length f) c (start c) g (cleared_config c known) (omega arith) (omega (arith, length-drop 6 f)) (omega arith)
    ∙ ap (λ (z : ℕ). frame_lines (cleared c).channel 0 k.frames ++ last_line z k.ending) (add-zero (length k.frames)))

of_header : (f : List ℕ) (h : Result Header Refusal) → header_of lmf f ≡ h → whole_frames h f < 2 ^ 64 → written (suc (length f)) (opened h) f ≡ listed h f
of_header f (Ok h) q few = good f h (good_valid f h q) few
of_header f (Err e) q few = ends (suc (length f)) _ f (start 255)

-- ---- what a step reads: a frame's bytes, of the header six, so that the program may hand it these alone
reads : (c : ℕ) (f : List ℕ) → T (valid c) → record_of c (take (frame_bytes c) f) ≡ record_of c f
unfolding record_of
reads c f v =
    let s = sound c v in
    ⊎_elim
    (λ h. ap (record_of c) (take_all (frame_bytes c) f (omega (arith, ltb-true (length f) (frame_bytes c) h))))
    (λ h.
    let room : frame_bytes c ≤ length f = ltb-false (length f) (frame_bytes c) h in
    let e = length-take-le (frame_bytes c) f room in
    rw (
      ne_eqb (length (take (frame_bytes c) f)) 0 (λ q. omega (arith, s.even, s.half_pos)),
      le-ltb (length (take (frame_bytes c) f)) (frame_bytes c) (omega arith),
      ne_eqb (length f) 0 (λ q. omega (arith, s.even, s.half_pos)),
      le-ltb (length f) (frame_bytes c) room,
    ))
    (outcomes (ltb (length f) (frame_bytes c)))

found_reads : (l : Lister) (f : List ℕ) (r : Result Record Refusal) → used_by r ≤ frame_bytes l.channel.config → found l (take (frame_bytes l.channel.config) f) r ≡ found l f r
found_reads l f (Ok (Frame used)) h = ap (λ (x : List ℕ). framed l used (listened l.channel (samples (nf l.channel.config) x))) (take-take used (frame_bytes l.channel.config) f h)
found_reads l f (Ok End) h = refl
found_reads l f (Err e) h = refl

used_most : (c : ℕ) (f : List ℕ) (r : Result Record Refusal) → record_of c f ≡ r → used_by r ≤ frame_bytes c
used_most c f (Ok (Frame used)) q = omega (arith, (whole c f used q).uses)
used_most c f (Ok End) q = omega arith
used_most c f (Err e) q = omega arith

-- THE STATEMENT
pub listed-whole : Listed
unfolding opening listing step header_of marked
listed-whole =
    record {
      listing_is = λ f few. of_header f (header_of lmf f) refl few;
      step_reads = λ l f v.
          let c = l.channel.config in
          ap (found l (take (frame_bytes c) f)) (reads c f v) ∙ found_reads l f (record_of c f) (used_most c f (record_of c f) refl);
      opening_reads = λ f.
          ⊎_elim
          (λ h. ap (λ (g : List ℕ). opened (header_of lmf g)) (take_all 6 f (omega (arith, ltb-true (length f) 6 h))))
          (λ h.
          let e = length-take-le 6 f (ltb-false (length f) 6 h) in
          rw (e, h, get_or-take 6 f 0 0 (omega arith), get_or-take 6 f 1 0 (omega arith), get_or-take 6 f 2 0 (omega arith), get_or-take 6 f 3 0 (omega arith), get_or-take 6 f 4 0 (omega arith), get_or-take 6 f 5 0 (omega arith)))
          (outcomes (ltb (length f) 6));
    }
