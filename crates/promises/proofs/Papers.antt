-- The answers that are enums in the paper's terms: each test of their definitions, as the row decides it. Assumes nothing.
use Prim.Native.Nat.{ℕ, ◌*◌, ◌≤◌, ◌<◌}
use native.Mathlib.Omega.{arith}
use mathlib.Core.Path.{◌≡◌, refl, sym, ap, ◌∙◌, subst}
use mathlib.Core.Logic.{⊎_elim}
use mathlib.Core.Bool.{true, false, ◌&&◌, true≢false}
use mathlib.Core.List.{List, [], ◌∷◌}
use lib.Dec.{T, eqb, eqb→eq, le→leb}
use lib.ListN.{length, get_or, take, drop}
use lib.Seq.{get_or-take, get_or-drop}
use lib.Ieee.{Float, nan, inf, fin}
use lib.Ieee.Fits.{and_l, and_r}
use borrow.Author.Tests.{lt-ltb, le-ltb, le-leb, lt-leb, eq-eqb, ne_eqb}
use Rattle.laws.specs.Lists.{first}
use Rattle.laws.specs.Passes.{passes7}
use Rattle.laws.proofs.Bools.{outcomes}
use Rattle.laws.proofs.Lists.{first-none}
use Rattle.config.specs.Config.{largest, nf, nb}
use Rattle.config.proofs.Sound.{sound}
use Rattle.loudest.specs.Loudest.{silent, loudest, heard}
use Rattle.frame_file.specs.File.{byte, short_at, short, marked, header_of, record_of}
use Rattle.call_log.specs.Log as log
use Rattle.promises.specs.Papers.{Papers}

-- a zero passes 7
zero_passes : (x : Float) → silent x ≡ true → passes7 x ≡ true
unfolding silent passes7
zero_passes nan e = absurd (true≢false (sym e))
zero_passes (inf s) e = absurd (true≢false (sym e))
zero_passes (fin true m e) h = h
zero_passes (fin false m e) h = refl

-- ---- a mark of three bytes, byte by byte as the definition tests it, and as the first three bytes of the file
is_marked : (x y z : ℕ) (f : List ℕ) → take 3 f ≡ x ∷ y ∷ z ∷ [] → marked (x ∷ y ∷ z ∷ []) f ≡ true
unfolding marked
is_marked x y z f e = rw (at 0 (omega arith), at 1 (omega arith), at 2 (omega arith))
  where
    at : (k : ℕ) → k < 3 → eqb (byte f k) (byte (x ∷ y ∷ z ∷ []) k) ≡ true
    at k h = eq-eqb (byte f k) _ (sym (get_or-take 3 f k 0 h) ∙ ap (λ (l : List ℕ). get_or l k 0) e)

marks : (x y z : ℕ) (f : List ℕ) → 3 ≤ length f → T (marked (x ∷ y ∷ z ∷ []) f) → take 3 f ≡ x ∷ y ∷ z ∷ []
unfolding marked
marks x y z [] h t = absurd (omega arith)
marks x y z (a ∷ []) h t = absurd (omega arith)
marks x y z (a ∷ b ∷ []) h t = absurd (omega arith)
marks x y z (a ∷ b ∷ c ∷ f) h t =
    let u = and_r (eqb a x) (eqb b y && eqb c z) t in
    let p : a ≡ x = eqb→eq a x (and_l (eqb a x) (eqb b y && eqb c z) t) in
    let q : b ≡ y = eqb→eq b y (and_l (eqb b y) (eqb c z) u) in
    let r : c ≡ z = eqb→eq c z (and_r (eqb b y) (eqb c z) u) in
    cc

not-marked : (x y z : ℕ) (f : List ℕ) → 3 ≤ length f → (take 3 f ≡ x ∷ y ∷ z ∷ [] → ⊥) → marked (x ∷ y ∷ z ∷ []) f ≡ false
not-marked x y z f h n = ⊎_elim (λ t. absurd (n (marks x y z f h (subst T (sym t) tt)))) (λ e. e) (outcomes (marked (x ∷ y ∷ z ∷ []) f))

-- the version as the log's definition reads it
version : (b : List ℕ) → short (drop 3 b) ≡ short_at b 3
version b = rw (get_or-drop 3 b 0 0, get_or-drop 3 b 1 0)

pub papers : Papers
unfolding heard loudest header_of record_of log.header_of log.call_taken log.fields log.field_taken log.fields_of log.rows
papers =
    record {
      no_config = λ c l v. rw (lt-leb c largest v);
      bad_energies = λ c l v n. rw (le-leb c largest v, ne_eqb (length l) (nb c) n);
      bad_energy = λ c l v n i. rw (le-leb c largest v, eq-eqb (length l) (nb c) n, ne_eqb (first passes7 l) (length l) (λ e. omega arith));
      quiet = λ c l v n z.
          rw (
            le-leb c largest v,
            eq-eqb (length l) (nb c) n,
            eq-eqb (first passes7 l) (length l) (sym (first-none passes7 l nan (λ k i. zero_passes (get_or l k nan) (z k i)))),
            eq-eqb (first silent l) (length l) (sym (first-none silent l nan z)),
          );
      loud = λ c l v n p z. rw (le-leb c largest v, eq-eqb (length l) (nb c) n, eq-eqb (first passes7 l) (length l) p, ne_eqb (first silent l) (length l) (λ e. omega arith));
      short_file = λ f h. rw (lt-ltb (length f) 6 h);
      bad_mark = λ f h n. rw (le-ltb (length f) 6 h, not-marked _ _ _ f (omega arith) n);
      bad_version = λ f h e n. rw (le-ltb (length f) 6 h, is_marked _ _ _ f e, ne_eqb (short_at f 3) 1 n);
      bad_config = λ f h e v c. rw (le-ltb (length f) 6 h, is_marked _ _ _ f e, eq-eqb (short_at f 3) 1 v, lt-leb (byte f 5) largest c);
      good = λ f h e v c. rw (le-ltb (length f) 6 h, is_marked _ _ _ f e, eq-eqb (short_at f 3) 1 v, le-leb (byte f 5) largest c, v);
      at_end = λ c v. rw (le-leb c largest v);
      cut = λ c f v some few. rw (le-leb c largest v, ne_eqb (length f) 0 (λ e. omega arith), lt-ltb (length f) (2 * nf c) few);
      whole = λ c f v room.
          let s = sound c (le→leb c largest v) in
          rw (le-leb c largest v, ne_eqb (length f) 0 (λ e. omega (arith, s.even, s.half_pos)), le-ltb (length f) (2 * nf c) room);
      astray = λ c f v. rw (lt-leb c largest v);
      short_log = λ b h. rw (lt-ltb (length b) 5 h);
      bad_log_mark = λ b h n. rw (le-ltb (length b) 5 h, not-marked _ _ _ b (omega arith) n);
      bad_log_version = λ b h e n. rw (le-ltb (length b) 5 h, is_marked _ _ _ b e, version b, ne_eqb (short_at b 3) 3 n);
      good_log = λ b h e v. rw (le-ltb (length b) 5 h, is_marked _ _ _ b e, version b, eq-eqb (short_at b 3) 3 v);
      whole_call = λ c b. rw (le-leb 1 (length (c ∷ b)) (omega arith));
      cut_call = refl;
    }
