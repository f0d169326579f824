-- Pages: texts after texts are the texts together, a byte finds room or does not, and a loop over a list writes its places' texts. Assumes nothing.
use mathlib.Core.Path.{◌≡◌, refl, sym, ap, ◌∙◌, subst}
use mathlib.Core.Bool.{Bool, cond}
use mathlib.Core.List.{List, [], ◌∷◌, ◌++◌, append_assoc, append-nil}
use Prim.Native.Nat.{ℕ, zero, suc, ◌+◌, ◌≤◌, ◌<◌}
use native.Mathlib.Nat.{not-suc-le-zero, le_of_suc-le-suc}
use native.Mathlib.Numerals.{add-one}
use lib.ListN.{length, get_or, take, set}
use lib.Seq.{take_all}
use borrow.Author.Tests.{lt-ltb, le-ltb}
use Rattle.call_text.specs.Page.{Page, page, put, written}
use Rattle.call_text.specs.Pages.{Writes}
use Rattle.call_text.specs.declared.Page as declared
use Rattle.call_text.specs.Lines.{each}

written-append : (p : Page) (s t : List ℕ) → written p (s ++ t) ≡ written (written p s) t
unfolding written
written-append p [] t = refl
written-append p (b ∷ s) t = written-append (put p b) s t

-- ---- a byte
pub room : (l : List ℕ) (at b : ℕ) → at < length l → page (set l at b) (at + 1) ≡ written (page l at) (b ∷ [])
unfolding page put written
room l at b h = sym (ap (λ (t : Bool). cond t (page (set l at b) (at + 1)) (page l at)) (lt-ltb at (length l) h))

pub full : (l : List ℕ) (at b : ℕ) → length l ≤ at → page l at ≡ written (page l at) (b ∷ [])
unfolding page put written
full l at b h = sym (ap (λ (t : Bool). cond t (page (set l at b) (at + 1)) (page l at)) (le-ltb at (length l) h))

-- ---- texts after each other
pub nothing : (p : declared.Page) → Writes p p []
unfolding written
nothing p = record { same = refl; text = refl }

pub two : {p q r : declared.Page} (a b : List ℕ) → Writes p q a → Writes q r b → Writes p r (a ++ b)
two {p} a b e f =
    record {
      same = f.same ∙ e.same;
      text = f.text ∙ ap (λ (u : Page). written u b) e.text ∙ sym (written-append (page p.out.now p.at) a b);
    }

pub three : {p q r s : declared.Page} (a b c : List ℕ) → Writes p q a → Writes q r b → Writes r s c → Writes p s (a ++ b ++ c)
three a b c e f g = two (a ++ b) c (two a b e f) g

-- a line: what it begins with, and the rest of it
pub line : {p q r : declared.Page} (a b c : List ℕ) → Writes p q a → Writes q r (b ++ c) → Writes p r (a ++ b ++ c)
line {p} {r = r} a b c e f = subst (Writes p r) (sym (append_assoc a b c)) (two a (b ++ c) e f)

-- ---- a loop over x
each-more : {A : Type 0} (f : A → List ℕ) (x : List A) (i : ℕ) (d : A) → i < length x → each f (take (suc i) x) ≡ each f (take i x) ++ f (get_or x i d)
unfolding each
each-more f [] i d h = absurd (not-suc-le-zero h)
each-more f (x ∷ xs) zero d h = append-nil (f x)
each-more f (x ∷ xs) (suc i) d h = ap (λ (l : List ℕ). f x ++ l) (each-more f xs i d (le_of_suc-le-suc h)) ∙ sym (append_assoc (f x) (each f (take i xs)) (f (get_or xs i d)))

module _ {A : Type 0} (f : A → List ℕ) (x : List A) {p q : declared.Page} (i : ℕ) (e : Writes p q (each f (take i x))) where
  pub again : {r : declared.Page} (d : A) → i < length x → Writes q r (f (get_or x i d)) → Writes p r (each f (take (i + 1) x))
  again {r} d h g = subst (λ (n : ℕ). Writes p r (each f (take n x))) (sym (add-one i)) (subst (Writes p r) (sym (each-more f x i d h)) (two _ _ e g))

  pub done : length x ≤ i → Writes p q (each f x)
  done h = subst (λ (l : List A). Writes p q (each f l)) (take_all i x h) e

-- bytes are their own texts
abbrev pub byte : ℕ → List ℕ
byte b = b ∷ []

pub each-byte : (s : List ℕ) → each byte s ≡ s
unfolding each
each-byte [] = refl
each-byte (b ∷ s) = ap (λ (l : List ℕ). b ∷ l) (each-byte s)
