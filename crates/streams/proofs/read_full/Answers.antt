-- `streams::read_full` meets its contract: what a read brings goes on where the bytes so far end. Assumes nothing.
use Rattle.std.proofs.Common.{rules, subst}
use Rattle.std.specs.Io.KnownBytes.{Consumes}
use Rattle.std.proofs.KnownBytes.{Consumes-trans}
use Rattle.streams.proofs.Pieces.{put_after}
use Rattle.streams.proofs.read_full.Goals as goal

pub loop-done-preserved : goal.loop-done-preserved
loop-done-preserved g c =
    let l = c.loop-done in
    let r = c.read_some-n in
    record {
      as_long = search rules;
      within = search rules;
      came = subst (Consumes _ _) (put_after l.done _ r.result l.buf r.new.buf l.invariant.within r.ensures.in_bounds) (Consumes-trans _ _ _ _ _ l.invariant.came r.ensures.bytes);
    }
