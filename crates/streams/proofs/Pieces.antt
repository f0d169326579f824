-- What two pieces of a list are together: the list's front, and what was put after it. Assumes nothing.
use Rattle.std.proofs.Common.{◌≡◌, ℕ, ◌+◌, ◌-◌, ◌≤◌, List, ◌++◌, length, take, drop, sym, ap, ◌∙◌, drop_at, length-take-le, le_refl}
use Rattle.std.proofs.lemmas.List.{take_rest}
use Rattle.std.proofs.lemmas.Slice.{take-put_mid_below}
use borrow.Rule.Slice.PartMut.{put_mid, post_of}
use lib.Seq.{take-add, take-append-le}

-- n places of ys, put after the first a places of xs
pub put_after : (a k n : ℕ) (xs ys : List ℕ) → a ≤ length xs → n ≤ length ys → take a xs ++ take n ys ≡ take (a + n) (put_mid a k xs ys)
put_after a k n xs ys within fits =
    let new = put_mid a k xs ys in
    let after = post_of a k xs in
    let front : take a new ≡ take a xs = take-put_mid_below _ _ _ _ _ (le_refl _) within in
    let rest : take n (drop a new) ≡ take n ys = ap (take n) (drop_at (take a xs) (ys ++ after) a (length-take-le a xs within)) ∙ take-append-le n ys after fits in
    sym (take-add a n new ∙ ap (λ l. l ++ take n (drop a new)) front ∙ ap (λ l. take a xs ++ l) rest)

-- n places of what is left after the first a places of xs, taken to its end, go on where those a places end
pub go_on : (a n : ℕ) (xs : List ℕ) → take a xs ++ take n (take (length xs - a) (drop a xs)) ≡ take (a + n) xs
go_on a n xs =
    let whole : take (length xs - a) (drop a xs) ≡ drop a xs = take_rest xs a in
    ap (λ l. take a xs ++ take n l) whole ∙ sym (take-add a n xs)
