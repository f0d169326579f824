-- `listing::frame_line` meets its contract: a line that grows from a blank one, by the two cases of the loudest band. Assumes nothing.
use mathlib.Core.Path.{◌≡◌, ap, ◌∙◌, sym}
use mathlib.Core.List.{List, ◌∷◌, [], ◌++◌, append_assoc}
use Rattle.loudest.specs.declared.Loudest.{Loudest}
use Rattle.loudest.specs.declared.Loudest.TheVariants.{Quiet, Loud}
use mathlib.Core.Bool.{Bool}
use Prim.Native.Nat.{ℕ}
use native.Mathlib.Omega.{arith}
use Rattle.listing.specs.declared.line.Text.{Text}
use Rattle.plain_text.specs.Text.{newline, digit, decimal}
use Rattle.listing.specs.Text.{band, frame_line}
use Rattle.listing.specs.Steps.{text}
use Rattle.listing.proofs.Lines.{begun, grown, says_len, length-numbered}
use Rattle.listing.proofs.frame_line.Goals as goal

-- what stands between number and band
abbrev between : ℕ → List ℕ
between d = 0x20 ∷ d ∷ 0x20 ∷ []

line-is : (n : ℕ) (flag : Bool) (d : ℕ) (l : Loudest) → d ≡ digit flag → decimal n ++ between d ++ (band l ++ newline) ≡ frame_line n flag l
unfolding frame_line
line-is n flag d l e = rw e (simp append_assoc)

pub numbered-t-requires : goal.numbered-t-requires
numbered-t-requires c = omega (arith, ap (λ (t : Text). t.len) c.blank.ensures)

pub with_bytes-requires : goal.with_bytes-requires
with_bytes-requires c = let a = c.args in
    let s = between c.digit.result in
    omega (arith, says_len (begun (decimal a.n ++ s) c.blank.ensures c.numbered-t.ensures), length-numbered a.n s c.ranges.n.fits)

pub returns-in_default : goal.returns-in_default
returns-in_default c = let a = c.args in
    let first = begun (decimal a.n ++ between c.digit.result) c.blank.ensures c.numbered-t.ensures in
    (grown (0x2d ∷ newline) first c.with_bytes.ensures).is
    ∙ ap text (line-is a.n a.flag c.digit.result Quiet c.digit.ensures)
    ∙ ap (λ (l : Loudest). text (frame_line a.n a.flag l)) (sym c.in_default.is)

pub numbered-requires : goal.numbered-requires
numbered-requires c = let a = c.args in
    let s = between c.digit.result in
    omega (arith, says_len (begun (decimal a.n ++ s) c.blank.ensures c.numbered-t.ensures), length-numbered a.n s c.ranges.n.fits)

pub returns : goal.returns
returns c = let a = c.args in
    let x = c.in-Loud in
    let first = begun (decimal a.n ++ between c.digit.result) c.blank.ensures c.numbered-t.ensures in
    (grown (decimal x.band ++ newline) first c.numbered.ensures).is
    ∙ ap text (line-is a.n a.flag c.digit.result (Loud x.band x.field-1) c.digit.ensures)
    ∙ ap (λ (l : Loudest). text (frame_line a.n a.flag l)) (sym x.is)
