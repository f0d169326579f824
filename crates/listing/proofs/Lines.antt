-- Texts: bytes after bytes are the bytes together, and a text says what was written. Assumes nothing.
use mathlib.Core.Path.{◌≡◌, refl, sym, ap, ◌∙◌}
use mathlib.Core.List.{List, ◌++◌, append_assoc}
use Prim.Native.Nat.{ℕ, ◌+◌, ◌^◌, ◌≤◌, ◌<◌}
use native.Mathlib.Nat.{zero-add}
use native.Mathlib.Omega.{arith}
use lib.ListN.{length, take, drop, length-append}
use lib.Seq.{paste, take-paste, drop-paste, take-length, drop-drop}
use Rattle.listing.specs.declared.line.Text.{Text}
use Rattle.plain_text.specs.Text.{decimal}
use Rattle.plain_text.proofs.Decimal.{length-decimal}
use Rattle.listing.specs.Steps.{blank, with, text, said}

module _ (d : List ℕ) (at : ℕ) (a b : List ℕ) (h : at ≤ length d) where
  p : List ℕ
  p = paste d at a (length a)

  places : (at + length a) + length b ≡ at + length (a ++ b)
  places = omega (arith, length-append a b)

  -- what stands before the second
  front : take (at + length a) p ++ take (length b) b ≡ take at d ++ take (length (a ++ b)) (a ++ b)
  unfolding p
  front =
      ap (λ (l : List ℕ). l ++ take (length b) b) (take-paste d at a (length a) h (omega arith))
      ∙ append_assoc (take at d) (take (length a) a) (take (length b) b)
      ∙ ap (λ (l : List ℕ). take at d ++ l) (rw (take-length a, take-length b, take-length (a ++ b)))

  -- and after it
  back : drop ((at + length a) + length b) p ≡ drop (at + length (a ++ b)) d
  unfolding p
  back =
      sym (drop-drop (length b) (at + length a) p)
      ∙ ap (drop (length b)) (drop-paste d at a (length a) h (omega arith))
      ∙ drop-drop (length b) (at + length a) d
      ∙ ap (λ (k : ℕ). drop k d) places

  pub twice : paste (paste d at a (length a)) (at + length a) b (length b) ≡ paste d at (a ++ b) (length (a ++ b))
  unfolding p
  twice =
      ap (λ (l : List ℕ). l ++ drop ((at + length a) + length b) p) front
      ∙ ap (λ (l : List ℕ). (take at d ++ take (length (a ++ b)) (a ++ b)) ++ l) back

abbrev pub made : List ℕ → ℕ → Text
made b n = record { bytes = b; len = n }

pub with_len : (t : Text) (s : List ℕ) → (with t s).len ≡ t.len + length s
unfolding with
with_len t s = refl

pub with-with : (t : Text) (a b : List ℕ) → t.len ≤ length t.bytes → with (with t a) b ≡ with t (a ++ b)
unfolding with
with-with t a b h =
    ap (λ (l : List ℕ). made l ((t.len + length a) + length b)) (twice t.bytes t.len a b h)
    ∙ ap (made (paste t.bytes t.len (a ++ b) (length (a ++ b)))) (places t.bytes t.len a b h)

pub said-text : (s : List ℕ) → said (text s) ≡ s
unfolding with
said-text s = take-paste blank.bytes 0 s (length s) (omega arith) (omega arith) ∙ take-length s

-- ---- a line that grows from a blank one
pub record Says (t : Text) (s : List ℕ) : Type 0 where
  pub is : t ≡ text s

pub begun : {t r : Text} (s : List ℕ) → t ≡ blank → r ≡ with t s → Says r s
begun s e h = record { is = h ∙ ap (λ (u : Text). with u s) e }

pub grown : {t r : Text} {a : List ℕ} (b : List ℕ) → Says t a → r ≡ with t b → Says r (a ++ b)
grown {t} {r} {a} b e h = record { is = h ∙ ap (λ (u : Text). with u b) e.is ∙ with-with blank a b (omega arith) }

pub says_len : {t : Text} {a : List ℕ} → Says t a → t.len ≡ length a
says_len {t} {a} e = ap (λ (u : Text). u.len) e.is ∙ with_len blank a ∙ zero-add (length a)

pub length-numbered : (n : ℕ) (s : List ℕ) → n < 2 ^ 64 → length (decimal n ++ s) ≤ 20 + length s
length-numbered n s h = omega (arith, length-append (decimal n) s, length-decimal n h)
