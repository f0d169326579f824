-- `call_log::read_header` meets its contract: each return by the tests passed. Assumes nothing.
use mathlib.Core.Path.{sym, ap, ◌∙◌}
use lib.ListN.{length, drop}
use borrow.Author.Tests.{lt-ltb, le-ltb, eq-eqb, ne_eqb}
use Rattle.frame_file.specs.File.{short}
use Rattle.call_log.specs.Log.{header_of}
use Rattle.call_log.proofs.read_header.Goals as goal

pub returns-then-b-lt5 : goal.returns-then-b-lt5
unfolding header_of
returns-then-b-lt5 c = let b = c.args.b.now in
    sym (rw (lt-ltb (length b) 5 c.if-b-lt5.true))

pub returns-then-not-begins : goal.returns-then-not-begins
unfolding header_of
returns-then-not-begins c = let b = c.args.b.now in
    sym (rw (le-ltb (length b) 5 c.if-b-lt5.false, sym c.begins.ensures ∙ c.if-not-begins.true))

pub returns-then-short-ne3 : goal.returns-then-short-ne3
unfolding header_of
returns-then-short-ne3 c = let b = c.args.b.now in
    let version = c.short.ensures ∙ ap short c.rest.ensures in
    sym (rw (le-ltb (length b) 5 c.if-b-lt5.false, sym c.begins.ensures ∙ c.if-not-begins.false, ne_eqb (short (drop 3 b)) 3 (λ e. c.if-short-ne3.true (version ∙ e))))

pub returns : goal.returns
unfolding header_of
returns c = let b = c.args.b.now in
    let version = c.short.ensures ∙ ap short c.rest.ensures in
    sym (rw (le-ltb (length b) 5 c.if-b-lt5.false, sym c.begins.ensures ∙ c.if-not-begins.false, eq-eqb (short (drop 3 b)) 3 (sym version ∙ c.if-short-ne3.false)))
