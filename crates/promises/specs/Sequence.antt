-- A sequence of calls on one channel, and what is promised of it (demand 3), for analysis and synthesis alike. Definitions only.
use Rattle.std.specs.Prelude.{ℕ, zero, suc, ◌≡◌, Bool, true, false, not, cond, List, [], ◌∷◌, T, eqb}
use Rattle.std.proofs.Math.Option.{Option, some, none}
use Rattle.config.specs.Config.{valid}
use Rattle.refusals.specs.Refusals as refusals

-- A kind of channel, by the definitions that the contracts of its `clear` and `frame` cite.
pub record Kind : Type 1 where
  pub Channel : Type 0
  -- what a frame call is lent, and all that it gives beside the channel: its answer, and the lent slices at its end
  pub Lent : Type 0
  pub Given : Type 0
  -- a sample or a line; of what is lent, the frame's own list of them, and no output
  pub Value : Type 0
  pub own : Lent → List Value
  -- what a channel holds: its configuration, and its samples or its memory
  pub config : Channel → ℕ
  pub kept : Channel → List Value
  -- a clear's number and channel
  pub cleared : ℕ → ℕ × Channel
  -- a frame call's number, by the channel's configuration; and all that it does, on any channel
  pub number : ℕ → Lent → ℕ
  pub frames : Channel → Lent → Given × Channel
  -- THE DEFINITION's value on a configuration, the frame before (if there was one) and the frame; and what is given beside a refusal's number
  pub value : ℕ → Option (List Value) → List Value → Given
  pub refusal : ℕ → Lent → Given

pub data Call (F : Type 0) : Type 0 where
  clear : ℕ → Call F
  frame : F → Call F

-- what is to be remembered of calls: the configuration of the last accepted clear, and the frame accepted last since it, if there was one
pub record Past (A : Type 0) : Type 0 where
  pub config : ℕ
  pub before : Option (List A)

abbrev pub fresh : {A : Type 0} → ℕ → Past A
fresh c = record { config = c; before = none }

module _ (k : Kind) where
  -- ---- what happens
  -- the channel that a clear gives; none where the clear is refused
  abbrev pub clears : ℕ → Option k.Channel
  clears c = cond (eqb (k.cleared c).0 refusals.accepted) (some (k.cleared c).1) none

  -- whether a frame call is accepted, on a channel of configuration c
  abbrev pub accepts : ℕ → k.Lent → Bool
  accepts c x = eqb (k.number c x) refusals.accepted

  -- each call is handed the channel as the last one gave it, and after a refused clear the one from before that clear
  abbrev pub handed_on : k.Channel → Call k.Lent → k.Channel
  handed_on a (clear c) = elim (clears c) [ some new ↦ new | none ↦ a ]
  handed_on a (frame x) = (k.frames a x).1

  abbrev pub after : k.Channel → List (Call k.Lent) → k.Channel
  after a [] = a
  after a (q ∷ qs) = after (handed_on a q) qs

  -- ---- what is remembered of it: refused calls change nothing
  abbrev pub recalled : Past k.Value → Call k.Lent → Past k.Value
  recalled p (clear c) = elim (valid c) [ true ↦ fresh c | false ↦ p ]
  recalled p (frame x) = elim (accepts p.config x) [ true ↦ record { config = p.config; before = some (k.own x) } | false ↦ p ]

  abbrev pub recall : Past k.Value → List (Call k.Lent) → Past k.Value
  recall p [] = p
  recall p (q ∷ qs) = recall (recalled p q) qs

  -- ---- what a frame call is to give, by its number
  abbrev pub gives : ℕ → ℕ → Option (List k.Value) → k.Lent → k.Given
  gives zero c f x = k.value c f (k.own x)
  gives (suc n) c f x = k.refusal (suc n) x

  abbrev pub defined : ℕ → Option (List k.Value) → k.Lent → k.Given
  defined c f x = gives (k.number c x) c f x

  -- ---- refused calls, on a channel of configuration c
  abbrev pub refuses : ℕ → Call k.Lent → Bool
  refuses c (clear d) = not (valid d)
  refuses c (frame x) = not (accepts c x)

  -- each of these calls is refused
  abbrev pub Idle : ℕ → List (Call k.Lent) → Type 0
  Idle c [] = Unit
  Idle c (q ∷ qs) = T (refuses c q) × Idle c qs

  -- ---- two callers share every accepted frame, in a row; refused calls may lie between on either side
  pub data Shared (c : ℕ) : List (Call k.Lent) → List (Call k.Lent) → Type 0 where
    over : Shared c [] []
    both : {f g : k.Lent} {qs rs : List (Call k.Lent)} → k.own f ≡ k.own g → T (accepts c f) → T (accepts c g) → Shared c qs rs → Shared c (frame f ∷ qs) (frame g ∷ rs)
    one_refused : {q : Call k.Lent} {qs rs : List (Call k.Lent)} → T (refuses c q) → Shared c qs rs → Shared c (q ∷ qs) rs
    other_refused : {q : Call k.Lent} {qs rs : List (Call k.Lent)} → T (refuses c q) → Shared c qs rs → Shared c qs (q ∷ rs)

  -- two channels agree: on the configuration, on the samples or memory, and on every bit that they give for an accepted frame that they share
  pub record Agree (a b : k.Channel) : Type 0 where
    pub configs : k.config a ≡ k.config b
    pub keep : k.kept a ≡ k.kept b
    pub answers : (x y : k.Lent) → k.own x ≡ k.own y → T (accepts (k.config a) x) → T (accepts (k.config b) y) → (k.frames a x).0 ≡ (k.frames b y).0

  -- ---- DEMAND 3
  pub record Demand3 : Type 0 where
    -- Over any calls on a channel that an accepted clear gave, what a frame call gives is the definition's value on the configuration of the last
    -- accepted clear, that frame, and the frame accepted before it since that clear, if there was one.
    pub by_definition : (c : ℕ) (a : k.Channel) → clears c ≡ some a → (qs : List (Call k.Lent)) (x : k.Lent)
        → (k.frames (after a qs) x).0 ≡ defined (recall (fresh c) qs).config (recall (fresh c) qs).before x
    -- In plain steps: after an accepted clear, and refused calls alone, what a frame call gives is the value with no frame before it.
    pub first : (a : k.Channel) (c : ℕ) → T (valid c) → (qs : List (Call k.Lent)) → Idle c qs → (x : k.Lent) → (k.frames (after a (clear c ∷ qs)) x).0 ≡ defined c none x
    -- After an accepted frame f on any channel, whatever its past, and refused calls alone, it is the value after f.
    pub second : (a : k.Channel) (f : k.Lent) → T (accepts (k.config a) f) → (qs : List (Call k.Lent)) → Idle (k.config a) qs
        → (x : k.Lent) → (k.frames (after a (frame f ∷ qs)) x).0 ≡ defined (k.config a) (some (k.own f)) x
    -- Refused calls, a refused clear among them, leave the whole channel as it was.
    pub refused : (a : k.Channel) (qs : List (Call k.Lent)) → Idle (k.config a) qs → after a qs ≡ a
    -- Two channels of one configuration, whatever their pasts, agree from the first accepted frame that they share on, while they share every accepted
    -- frame: so what they give is the same, bit for bit, from the second such frame on.
    pub agreement : (a b : k.Channel) → k.config a ≡ k.config b
        → (f g : k.Lent) → k.own f ≡ k.own g → T (accepts (k.config a) f) → T (accepts (k.config b) g)
        → (qs rs : List (Call k.Lent)) → Shared (k.config a) qs rs → Agree (after a (frame f ∷ qs)) (after b (frame g ∷ rs))
