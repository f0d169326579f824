-- `frame_file::header_with` meets its contract: its tests are those of the definition, in its order. Assumes nothing.
use mathlib.Core.Path.{sym, ap, ◌∙◌}
use Prim.Native.Nat.{ℕ}
use lib.ListN.{length}
use borrow.Author.Tests.{lt-ltb, le-ltb, eq-eqb, ne_eqb}
use Rattle.frame_file.specs.File.{byte, short_at, good, header_of}
use Rattle.frame_file.proofs.header_with.Goals as goal

pub returns-then-file-lt6 : goal.returns-then-file-lt6
unfolding header_of
returns-then-file-lt6 c = let f = c.args.file.now in
    rw (lt-ltb (length f) 6 c.if-file-lt6.true)

pub returns-then-not-begins : goal.returns-then-not-begins
unfolding header_of
returns-then-not-begins c = let f = c.args.file.now in
    rw (le-ltb (length f) 6 c.if-file-lt6.false, ← c.begins.ensures, c.if-not-begins.true)

pub returns-then-version-ne1 : goal.returns-then-version-ne1
unfolding header_of
returns-then-version-ne1 c = let f = c.args.file.now in
    rw (le-ltb (length f) 6 c.if-file-lt6.false, ← c.begins.ensures, c.if-not-begins.false, ne_eqb (short_at f 3) 1 (λ e. c.if-version-ne1.true (c.join-version.ensures ∙ e)))

pub returns-else-valid : goal.returns-else-valid
unfolding header_of
returns-else-valid c = let f = c.args.file.now in
    let v = c.join-version.ensures in
    rw (le-ltb (length f) 6 c.if-file-lt6.false, ← c.begins.ensures, c.if-not-begins.false, eq-eqb (short_at f 3) 1 (sym v ∙ c.if-version-ne1.false), ← c.valid.ensures, c.if-valid.false)

pub returns-then-valid : goal.returns-then-valid
unfolding header_of
returns-then-valid c = let f = c.args.file.now in
    let v = c.join-version.ensures in
    rw (le-ltb (length f) 6 c.if-file-lt6.false, ← c.begins.ensures, c.if-not-begins.false, eq-eqb (short_at f 3) 1 (sym v ∙ c.if-version-ne1.false), ← c.valid.ensures, c.if-valid.true) (ap (λ (n : ℕ). good n (byte f 5)) v)
