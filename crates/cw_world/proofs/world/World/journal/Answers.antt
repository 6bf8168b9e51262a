use Rattle.std.proofs.Common.{refl, sym, subst}
use Rattle.cw_model.specs.Journal.{journal, MayJournal}
use Rattle.cw_world.specs.Logs.{logs_of}
use Rattle.cw_world.specs.World.{WorldState}
use Rattle.cw_world.proofs.Quiet.{wanting-keeps}
use Rattle.cw_world.proofs.world.World.journal.Goals as goal

pub invariant_of-self : goal.invariant_of-self
invariant_of-self g c = wanting-keeps g.D.Disk (logs_of c.self.inside.logs.config c.self.inside.logs.offsets c.self.inside.logs.status c.self.inside.logs.txn c.self.inside.logs.batches) (journal c.args.entry) c.self.inside.cluster c.keep-kept.new.self c.keep-kept.result
    (c.journal_keeps_facts.ensures.journal c.self.inside.cluster.setting c.self.inside.cluster.state c.args.entry
    (subst (λ (v : WorldState g.row.D.Denot). MayJournal v.setting c.args.entry v.state) (sym c.self.view_is) c.requires)) c.keep-kept.ensures c.self.invariant

pub returns-clause-done : goal.returns-clause-done
returns-clause-done g c = rw (← c.self.view_is, c.receipt_of.ensures.number) record {
  done = c.keep-kept.ensures.done;
  wants = c.keep-kept.ensures.wants;
  setting = c.keep-kept.ensures.setting;
  logs = refl;
  name = refl;
}
