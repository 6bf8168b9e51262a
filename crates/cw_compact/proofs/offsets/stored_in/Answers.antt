use Rattle.std.proofs.Common.{take, sym, subst, arith}
use Rattle.std.proofs.lemmas.List.{take_all}
use Rattle.cw_compact.specs.Stored.{AreStored}
use Rattle.cw_compact.proofs.Joined.{more}
use Rattle.cw_compact.proofs.offsets.stored_in.Goals as goal

pub loop-entry-preserved : goal.loop-entry-preserved
loop-entry-preserved c =
    subst (AreStored c.note.new.self.rows) (sym (more c.args.log.now c.loop-entry.entry-index c.entry-item.result c.loop-entry-test.true c.entry-item.is))
    (c.in_ok-note.ensures (take c.loop-entry.entry-index c.args.log.now) c.loop-entry.invariant)

pub returns : goal.returns
returns c = subst (AreStored c.loop-entry.stored.rows) (take_all c.loop-entry.entry-index c.args.log.now (omega arith)) c.loop-entry.invariant
