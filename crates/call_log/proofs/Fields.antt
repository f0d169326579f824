-- A field that is taken is within the bytes. Assumes nothing.
use mathlib.Core.Path.{◌≡◌, refl, sym, ap, ◌∙◌, subst}
use mathlib.Core.Bool.{Bool, true, false}
use mathlib.Core.List.{List}
use Prim.Native.Nat.{ℕ, zero, suc, ◌+◌, ◌-◌, ◌*◌, ◌≤◌, ◌<◌}
use native.Mathlib.Numerals.{add-one}
use native.Mathlib.Omega.{arith}
use borrow.Author.Tests.{leb-true}
use lib.Dec.{leb}
use lib.ListN.{length, get_or, drop, length-drop}
use Rattle.call_log.specs.declared.layout.Field.{Field}
use Rattle.call_log.specs.declared.layout.Field.TheVariants.{Nothing, Byte, Flag, Number, Length, Samples, Floats, Unknown}
use Rattle.std.specs.Prelude.{Option, Some, None}
use Rattle.std.proofs.lemmas.List.{get_or_default}
use Rattle.frame_file.specs.File.{short}
use Rattle.call_log.specs.Log.{pick, within, fields_of, field_of, field_taken, next, fields, call_taken}

-- what is taken, if anything is, is at most n
abbrev Fit : ℕ → Option ℕ → Type 0
Fit n (Some m) = m ≤ n
Fit n None = Unit {0}

pick_fit : (n : ℕ) (b : Bool) (t : Option ℕ) → Fit n t → Fit n (pick b t)
pick_fit n true t h = h
pick_fit n false t h = tt

within_fit : (b : List ℕ) (n : ℕ) → Fit (length b) (within b n)
within_fit b n = go (leb n (length b)) (leb-true n (length b))
  where
    go : (t : Bool) → (t ≡ true → n ≤ length b) → Fit (length b) (pick t (Some n))
    go true h = h refl
    go false h = tt

fit : (b : List ℕ) (f : Field) → Fit (length b) (field_taken b f)
unfolding field_taken
fit b Nothing = omega arith
fit b Byte = within_fit b 1
fit b Flag = pick_fit (length b) (leb (get_or b 0 0) 1) (within b 1) (within_fit b 1)
fit b Number = within_fit b 2
fit b Length = pick_fit (length b) (leb (short b) 1024) _ (within_fit b (2 + 0 * short b))
fit b (Samples most) = pick_fit (length b) (leb (short b) most) _ (within_fit b (2 + 2 * short b))
fit b (Floats most) = pick_fit (length b) (leb (short b) most) _ (within_fit b (2 + 4 * short b))
fit b Unknown = tt

pub taken_within : (b : List ℕ) (f : Field) (n : ℕ) → field_taken b f ≡ Some n → n ≤ length b
taken_within b f n e = subst (Fit (length b)) e (fit b f)

-- what the field at place i takes of what is left from place k on, as the code reads it
pub at_hand : (b : List ℕ) (k i : ℕ) (d : Field) {t : Option ℕ} {left : List ℕ} {items : List Field} {n kind : ℕ}
    → i < length items → t ≡ field_taken left (get_or items i d) → left ≡ drop k b → items ≡ fields_of n → n ≡ kind → t ≡ field_taken (drop k b) (field_of kind i)
at_hand b k i d {items = items} h et el ei en =
    et
    ∙ (λ j. field_taken (el j) (get_or_default items i d Unknown h j))
    ∙ (λ j. field_taken (drop k b) (get_or (ei j) i Unknown))
    ∙ ap (λ (n : ℕ). field_taken (drop k b) (field_of n i)) en

-- one field more: where it stops, and where it is taken
module _ (i kind : ℕ) (b : List ℕ) (k : ℕ) (less : i < 6) where
  one_less : 6 - i ≡ suc (6 - (i + 1))
  one_less = omega arith

  abbrev on : Option ℕ → Option ℕ
  on t = next t (λ m. fields (6 - (i + 1)) (suc i) kind b (k + m))

  open_fields : fields (6 - i) i kind b k ≡ on (field_taken (drop k b) (field_of kind i))
  unfolding fields
  open_fields = ap (λ (n : ℕ). fields n i kind b k) one_less

  pub field_stops : field_taken (drop k b) (field_of kind i) ≡ None → None ≡ fields (6 - i) i kind b k
  field_stops e = sym (open_fields ∙ ap on e)

  pub field_goes : (m : ℕ) → field_taken (drop k b) (field_of kind i) ≡ Some m → fields (6 - (i + 1)) (i + 1) kind b (k + m) ≡ fields (6 - i) i kind b k
  field_goes m e = ap (λ (j : ℕ). fields (6 - (i + 1)) j kind b (k + m)) (add-one i) ∙ sym (open_fields ∙ ap on e)

next-within : (room part : ℕ) (t : Option ℕ) (f : ℕ → Option ℕ) → Fit part t → ((m : ℕ) → m ≤ part → Fit room (f m)) → Fit room (next t f)
next-within room part (Some m) f l h = h m l
next-within room part None f l h = tt

fields_within : (n i kind : ℕ) (b : List ℕ) (k : ℕ) → k ≤ 1 + (length b - 1) → Fit (1 + (length b - 1)) (fields n i kind b k)
unfolding fields
fields_within zero i kind b k h = h
fields_within (suc n) i kind b k h =
    next-within (1 + (length b - 1)) (length (drop k b)) (field_taken (drop k b) (field_of kind i)) (λ m. fields n (suc i) kind b (k + m)) (fit (drop k b) (field_of kind i))
    (λ m l. fields_within n (suc i) kind b (k + m) (omega (arith, length-drop k b)))

-- a call that is taken is within the bytes, where there are any
pub call_within : (b : List ℕ) (n : ℕ) → 0 < length b → call_taken b ≡ Some n → n ≤ length b
unfolding call_taken
call_within b n h e =
    let l : n ≤ 1 + (length b - 1) = subst (Fit (1 + (length b - 1))) e (fields_within 6 0 (get_or b 0 0) b 1 (omega arith)) in
    omega arith
