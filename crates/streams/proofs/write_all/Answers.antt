-- `streams::write_all` meets its contract: what a write takes goes on where the bytes so far end. Assumes nothing.
use Rattle.std.proofs.Common.{rules, subst}
use Rattle.std.specs.Io.KnownBytes.{Appends}
use Rattle.std.proofs.KnownBytes.{Appends-trans}
use Rattle.streams.proofs.Pieces.{go_on}
use Rattle.streams.proofs.write_all.Goals as goal

pub loop-done-preserved : goal.loop-done-preserved
loop-done-preserved g c =
    let l = c.loop-done in
    let r = c.write_some-n in
    record {
      within = search rules;
      went = subst (Appends _ _) (go_on l.done r.result c.args.buf.now) (Appends-trans _ _ _ _ _ l.invariant.went r.ensures.bytes);
    }
