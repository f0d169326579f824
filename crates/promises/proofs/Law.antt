-- Demand 3's law, once for every kind of channel: what calls leave in a channel's configuration and array is what is recalled of them. `Lawful` has what a
-- kind owes of a single call; from it `demand3` follows by going through the calls. Assumes nothing.
use Prim.Native.Nat.{ℕ, zero, suc}
use mathlib.Core.Path.{◌≡◌, refl, sym, ap, ◌∙◌, subst}
use mathlib.Core.Bool.{Bool, true, false, not, cond}
use mathlib.Core.Option.{Option, some, none, none-ne-some, some-injective}
use mathlib.Core.List.{List, [], ◌∷◌}
use lib.Dec.{T, eqb, eqb→eq}
use lib.ListN.{length}
use Rattle.config.specs.Config.{valid}
use Rattle.refusals.specs.Refusals.{clearing}
use Rattle.promises.specs.Sequence.{Kind, Call, clear, frame, Past, fresh, clears, accepts, handed_on, after, recalled, recall, gives, defined, refuses, Idle, Shared, over, both, one_refused, other_refused, Agree, Demand3}

-- f is the own list of a frame that configuration c accepts, where frames have `size c` places
pub record Fits {A : Type 0} (size : ℕ → ℕ) (c : ℕ) (f : List A) : Type 0 where
  pub is_valid : T (valid c)
  pub length-is : length f ≡ size c

-- What a kind owes of a single call. `keeps c p` is the array after the frame p, `answer c s f` what an accepted call gives on the array s.
pub record Lawful (k : Kind) : Type 1 where
  pub size : ℕ → ℕ
  pub new : ℕ → k.Channel
  pub keeps : ℕ → Option (List k.Value) → List k.Value
  pub answer : ℕ → List k.Value → List k.Value → k.Given
  -- a clear, by the test of its configuration
  pub cleared_by : (c : ℕ) → k.cleared c ≡ clearing (λ n d. (n, new d)) (valid c) c
  pub new-config : (c : ℕ) → k.config (new c) ≡ c
  pub new-kept : (c : ℕ) → k.kept (new c) ≡ keeps c none
  -- a frame call, by its number; the first tests are of the configuration and of the frame's length
  pub rest : ℕ → k.Lent → ℕ
  pub number_is : (c : ℕ) (x : k.Lent) → k.number c x ≡ cond (not (valid c)) 1 (cond (not (eqb (length (k.own x)) (size c))) 3 (rest c x))
  pub framed : ℕ → k.Channel → k.Lent → k.Given × k.Channel
  pub framed_by : (a : k.Channel) (x : k.Lent) → k.frames a x ≡ framed (k.number (k.config a) x) a x
  pub frame_refused : (n : ℕ) (a : k.Channel) (x : k.Lent) → framed (suc n) a x ≡ (k.refusal (suc n) x, a)
  pub frame-gives : (a : k.Channel) (x : k.Lent) → (framed 0 a x).0 ≡ answer (k.config a) (k.kept a) (k.own x)
  pub frame-config : (a : k.Channel) (x : k.Lent) → k.config (framed 0 a x).1 ≡ k.config a
  pub frame_kept : (a : k.Channel) (x : k.Lent) → Fits size (k.config a) (k.own x) → k.kept (framed 0 a x).1 ≡ keeps (k.config a) (some (k.own x))
  -- what the definition reads of the array
  pub none_read : (c : ℕ) → T (valid c) → (x : List k.Value) → answer c (keeps c none) x ≡ k.value c none x
  pub some_read : (c : ℕ) (f : List k.Value) → Fits size c f → (x : List k.Value) → answer c (keeps c (some f)) x ≡ k.value c (some f) x

module _ (k : Kind) (l : Lawful k) where
  -- ---- a single call
  clear_is : (c : ℕ) (b : Bool) → valid c ≡ b → k.cleared c ≡ clearing (λ n d. (n, l.new d)) b c
  clear_is c b e = l.cleared_by c ∙ ap (λ (v : Bool). clearing (λ n d. (n, l.new d)) v c) e

  -- the channel of a clear, by its number and channel
  of : ℕ × k.Channel → Option k.Channel
  of r = cond (eqb r.0 0) (some r.1) none

  clears-new : (c : ℕ) → T (valid c) → clears k c ≡ some (l.new c)
  unfolding of
  clears-new c = go (valid c) refl
    where
      go : (b : Bool) → valid c ≡ b → T b → clears k c ≡ some (l.new c)
      go true e t = ap of (clear_is c true e)
      go false e t = absurd t

  clears-none : (c : ℕ) → T (not (valid c)) → clears k c ≡ none
  unfolding of
  clears-none c = go (valid c) refl
    where
      go : (b : Bool) → valid c ≡ b → T (not b) → clears k c ≡ none
      go true e t = absurd t
      go false e t = ap of (clear_is c false e)

  pub fits : (c : ℕ) (x : k.Lent) → T (accepts k c x) → Fits l.size c (k.own x)
  fits c x t = go (valid c) (λ v. v) (eqb (length (k.own x)) (l.size c)) (eqb→eq (length (k.own x)) (l.size c)) (subst (λ (n : ℕ). T (eqb n 0)) (l.number_is c x) t)
    where
      go : (v : Bool) → (T v → T (valid c)) → (b : Bool) → (T b → length (k.own x) ≡ l.size c) → T (eqb (cond (not v) 1 (cond (not b) 3 (l.rest c x))) 0) → Fits l.size c (k.own x)
      go true v true e t = record { is_valid = v tt; length-is = e tt }
      go true v false e t = absurd t
      go false v b e t = absurd t

  pub taken : (a : k.Channel) (x : k.Lent) → T (accepts k (k.config a) x) → k.frames a x ≡ l.framed 0 a x
  taken a x t = l.framed_by a x ∙ ap (λ (n : ℕ). l.framed n a x) (eqb→eq (k.number (k.config a) x) 0 t)

  unmoved : (a : k.Channel) (x : k.Lent) → T (not (accepts k (k.config a) x)) → (k.frames a x).1 ≡ a
  unmoved a x t = ap (λ (r : k.Given × k.Channel). r.1) (l.framed_by a x) ∙ go (k.number (k.config a) x) t
    where
      go : (n : ℕ) → T (not (eqb n 0)) → (l.framed n a x).1 ≡ a
      go zero t = absurd t
      go (suc n) t = ap (λ (r : k.Given × k.Channel). r.1) (l.frame_refused n a x)

  -- ---- what is recalled is of a configuration, and of a frame that it accepts
  abbrev Good : ℕ → Option (List k.Value) → Type 0
  Good c none = T (valid c)
  Good c (some f) = Fits l.size c f

  good-read : (c : ℕ) (p : Option (List k.Value)) → Good c p → (x : List k.Value) → l.answer c (l.keeps c p) x ≡ k.value c p x
  good-read c none g = l.none_read c g
  good-read c (some f) g = l.some_read c f g

  -- THE INVARIANT: a channel holds what is recalled
  record Holds (a : k.Channel) (p : Past k.Value) : Type 0 where
    config : k.config a ≡ p.config
    kept : k.kept a ≡ l.keeps p.config p.before
    good : Good p.config p.before

  answers : (a : k.Channel) (p : Past k.Value) → Holds a p → (x : k.Lent) → (k.frames a x).0 ≡ defined k p.config p.before x
  answers a p h x =
      ap (λ (r : k.Given × k.Channel). r.0) (l.framed_by a x)
      ∙ ap (λ (c : ℕ). (l.framed (k.number c x) a x).0) h.config
      ∙ go (k.number p.config x)
    where
      go : (n : ℕ) → (l.framed n a x).0 ≡ gives k n p.config p.before x
      go zero =
          l.frame-gives a x
          ∙ ap (λ (c : ℕ). l.answer c (k.kept a) (k.own x)) h.config
          ∙ ap (λ (s : List k.Value). l.answer p.config s (k.own x)) h.kept
          ∙ good-read p.config p.before h.good (k.own x)
      go (suc n) = ap (λ (r : k.Given × k.Channel). r.0) (l.frame_refused n a x)

  -- the channel handed on after a clear, by what the clear gives
  pick : k.Channel → Option k.Channel → k.Channel
  pick a o = elim o [ some new ↦ new | none ↦ a ]

  handed_on-new : (a : k.Channel) (c : ℕ) → T (valid c) → handed_on k a (clear c) ≡ l.new c
  unfolding pick
  handed_on-new a c v = ap (pick a) (clears-new c v)

  handed_on-old : (a : k.Channel) (c : ℕ) → T (not (valid c)) → handed_on k a (clear c) ≡ a
  unfolding pick
  handed_on-old a c n = ap (pick a) (clears-none c n)

  holds_new : (c : ℕ) → T (valid c) → Holds (l.new c) (fresh c)
  holds_new c v = record { config = l.new-config c; kept = l.new-kept c; good = v }

  holds_taken : (a : k.Channel) (x : k.Lent) → T (accepts k (k.config a) x) → Holds (k.frames a x).1 (record { config = k.config a; before = some (k.own x) })
  holds_taken a x t =
      let f = fits (k.config a) x t in
      subst (λ (r : k.Given × k.Channel). Holds r.1 (record { config = k.config a; before = some (k.own x) })) (sym (taken a x t))
      (record { config = l.frame-config a x; kept = l.frame_kept a x f; good = f })

  -- ---- a sequence of calls: each keeps the invariant
  step : (a : k.Channel) (p : Past k.Value) → Holds a p → (q : Call k.Lent) → Holds (handed_on k a q) (recalled k p q)
  step a p h (clear c) = go (valid c) (λ v. v) (λ v. v)
    where
      go : (b : Bool) → (T b → T (valid c)) → (T (not b) → T (not (valid c))) → Holds (handed_on k a (clear c)) (elim b [ true ↦ fresh c | false ↦ p ])
      go true v n = subst (λ (d : k.Channel). Holds d (fresh c)) (sym (handed_on-new a c (v tt))) (holds_new c (v tt))
      go false v n = subst (λ (d : k.Channel). Holds d p) (sym (handed_on-old a c (n tt))) h
  step a p h (frame x) = go (accepts k p.config x) (λ t. t) (λ t. t)
    where
      back : (f : Bool → Bool) → T (f (accepts k p.config x)) → T (f (accepts k (k.config a) x))
      back f t = subst (λ (c : ℕ). T (f (accepts k c x))) (sym h.config) t

      go : (b : Bool) → (T b → T (accepts k p.config x)) → (T (not b) → T (not (accepts k p.config x)))
          → Holds (k.frames a x).1 (elim b [ true ↦ record { config = p.config; before = some (k.own x) } | false ↦ p ])
      go true t n = subst (λ (c : ℕ). Holds (k.frames a x).1 (record { config = c; before = some (k.own x) })) h.config (holds_taken a x (back (λ b. b) (t tt)))
      go false t n = subst (λ (d : k.Channel). Holds d p) (sym (unmoved a x (back not (n tt)))) h

  steps : (a : k.Channel) (p : Past k.Value) → Holds a p → (qs : List (Call k.Lent)) → Holds (after k a qs) (recall k p qs)
  steps a p h [] = h
  steps a p h (q ∷ qs) = steps (handed_on k a q) (recalled k p q) (step a p h q) qs

  -- a refused call leaves the channel
  stays : (a : k.Channel) (q : Call k.Lent) → T (refuses k (k.config a) q) → handed_on k a q ≡ a
  stays a (clear d) t = handed_on-old a d t
  stays a (frame x) t = unmoved a x t

  idle : (a : k.Channel) (qs : List (Call k.Lent)) → Idle k (k.config a) qs → after k a qs ≡ a
  idle a [] i = refl
  idle a (q ∷ qs) i = ap (λ (d : k.Channel). after k d qs) (stays a q i.0) ∙ idle a qs i.1

  -- the channel that an accepted clear gave
  accepted-clear : (c : ℕ) (a : k.Channel) → clears k c ≡ some a → Holds a (fresh c)
  accepted-clear c a e = go (valid c) (λ v. v) (λ v. v)
    where
      go : (b : Bool) → (T b → T (valid c)) → (T (not b) → T (not (valid c))) → Holds a (fresh c)
      go true v n = subst (λ (d : k.Channel). Holds d (fresh c)) (some-injective (l.new c) a (sym (clears-new c (v tt)) ∙ e)) (holds_new c (v tt))
      go false v n = absurd (none-ne-some a (sym (clears-none c (n tt)) ∙ e))

  -- what holds the same, and refused calls after it, gives by the definition
  idle_answers : (a : k.Channel) (p : Past k.Value) → Holds a p → (qs : List (Call k.Lent)) → Idle k p.config qs → (x : k.Lent) → (k.frames (after k a qs) x).0 ≡ defined k p.config p.before x
  idle_answers a p h qs i x =
      ap (λ (d : k.Channel). (k.frames d x).0) (idle a qs (subst (λ (c : ℕ). Idle k c qs) (sym h.config) i)) ∙ answers a p h x

  -- two channels that hold the same agree, and go on to while they share their accepted frames
  agree : (a b : k.Channel) (p : Past k.Value) → Holds a p → Holds b p → Agree k a b
  agree a b p h j =
      record {
        configs = h.config ∙ sym j.config;
        keep = h.kept ∙ sym j.kept;
        answers = λ x y e s t. accepted a h x s ∙ ap (k.value p.config p.before) e ∙ sym (accepted b j y t);
      }
    where
      accepted : (d : k.Channel) → Holds d p → (x : k.Lent) → T (accepts k (k.config d) x) → (k.frames d x).0 ≡ k.value p.config p.before (k.own x)
      accepted d g x t =
          answers d p g x
          ∙ ap (λ (n : ℕ). gives k n p.config p.before x) (ap (λ (c : ℕ). k.number c x) (sym g.config) ∙ eqb→eq (k.number (k.config d) x) 0 t)

  -- an accepted frame f with this own list, on a channel of configuration c
  takes : (a : k.Channel) (c : ℕ) → k.config a ≡ c → (f : k.Lent) (own : List k.Value) → k.own f ≡ own → T (accepts k c f) → Holds (k.frames a f).1 (record { config = c; before = some own })
  takes a c e f own o t =
      subst (λ (m : List k.Value). Holds (k.frames a f).1 (record { config = c; before = some m })) o
      (subst (λ (d : ℕ). Holds (k.frames a f).1 (record { config = d; before = some (k.own f) })) e (holds_taken a f (subst (λ (d : ℕ). T (accepts k d f)) (sym e) t)))

  stays_at : (a : k.Channel) (c : ℕ) → k.config a ≡ c → (q : Call k.Lent) → T (refuses k c q) → handed_on k a q ≡ a
  stays_at a c e q t = stays a q (subst (λ (d : ℕ). T (refuses k d q)) (sym e) t)

  shared : (c : ℕ) {qs rs : List (Call k.Lent)} → Shared k c qs rs
      → (a b : k.Channel) (f : Option (List k.Value)) → Holds a (record { config = c; before = f }) → Holds b (record { config = c; before = f }) → Agree k (after k a qs) (after k b rs)
  shared c over a b f h j = agree a b (record { config = c; before = f }) h j
  shared c (both {f} {g} e s t r) a b p h j =
      shared c r (k.frames a f).1 (k.frames b g).1 (some (k.own g))
      (takes a c h.config f (k.own g) e s)
      (takes b c j.config g (k.own g) refl t)
  shared c (one_refused {q} {qs} {rs} t r) a b p h j =
      subst (λ (d : k.Channel). Agree k (after k d qs) (after k b rs)) (sym (stays_at a c h.config q t)) (shared c r a b p h j)
  shared c (other_refused {q} {qs} {rs} t r) a b p h j =
      subst (λ (d : k.Channel). Agree k (after k a qs) (after k d rs)) (sym (stays_at b c j.config q t)) (shared c r a b p h j)

  pub configured : (c : ℕ) (a : k.Channel) → clears k c ≡ some a → (qs : List (Call k.Lent)) → k.config (after k a qs) ≡ (recall k (fresh c) qs).config
  configured c a e qs = (steps a (fresh c) (accepted-clear c a e) qs).config

  pub demand3 : Demand3 k
  demand3 =
      record {
        by_definition = λ c a e qs x. answers (after k a qs) (recall k (fresh c) qs) (steps a (fresh c) (accepted-clear c a e) qs) x;
        first = λ a c v qs i x. ap (λ (d : k.Channel). (k.frames (after k d qs) x).0) (handed_on-new a c v) ∙ idle_answers (l.new c) (fresh c) (holds_new c v) qs i x;
        second = λ a f t qs i x. idle_answers (k.frames a f).1 (record { config = k.config a; before = some (k.own f) }) (holds_taken a f t) qs i x;
        refused = idle;
        agreement = λ a b e f g o s t qs rs r.
            shared (k.config a) r (k.frames a f).1 (k.frames b g).1 (some (k.own g))
            (takes a (k.config a) refl f (k.own g) o s)
            (takes b (k.config a) (sym e) g (k.own g) refl (subst (λ (c : ℕ). T (accepts k c g)) (sym e) t));
      }
