-- `frame_file::read_record` meets its contract: its tests are those of the definition, in its order. Assumes nothing.
use mathlib.Core.Path.{sym, ap, ◌∙◌, subst}
use Prim.Native.Nat.{ℕ, ◌*◌}
use native.Mathlib.Omega.{arith}
use lib.Dec.{T}
use lib.ListN.{length}
use borrow.Author.Tests.{lt-ltb, le-ltb}
use Rattle.std.specs.Prelude.{Ok}
use Rattle.config.specs.Config.{valid}
use Rattle.config.proofs.Sound.{sound}
use Rattle.frame_file.specs.File.{frame_bytes, record_of}
use Rattle.frame_file.specs.declared.Record.TheVariants.{Frame}
use Rattle.frame_file.proofs.read_record.Goals as goal

pub returns-then-not-valid : goal.returns-then-not-valid
unfolding record_of
returns-then-not-valid c = rw (← c.valid.ensures, c.if-not-valid.true)

pub returns-then-is_empty : goal.returns-then-is_empty
unfolding record_of
returns-then-is_empty c = rw (← c.valid.ensures, c.if-not-valid.false, ← c.is_empty.ensures, c.if-is_empty.true)

pub overflow_mul-used : goal.overflow_mul-used
overflow_mul-used c = let v : T (valid c.args.config) = subst T (sym c.if-not-valid.false ∙ c.valid.ensures) tt in
    omega (arith, c.nf-used.ensures, (sound c.args.config v).nf_le)

pub returns-then-bytes-used : goal.returns-then-bytes-used
unfolding record_of
returns-then-bytes-used c = let f = c.args.bytes.now in
    let e = c.nf-used.ensures in
    rw (← c.valid.ensures, c.if-not-valid.false, ← c.is_empty.ensures, c.if-is_empty.false, lt-ltb (length f) (frame_bytes c.args.config) (omega (arith, c.if-bytes-used.true, e)))

pub returns : goal.returns
unfolding record_of
returns c = let f = c.args.bytes.now in
    let e = c.nf-used.ensures in
    rw (← c.valid.ensures, c.if-not-valid.false, ← c.is_empty.ensures, c.if-is_empty.false, le-ltb (length f) (frame_bytes c.args.config) (omega (arith, c.if-bytes-used.false, e))) (ap (λ (n : ℕ). Ok (Frame (2 * n))) e)
