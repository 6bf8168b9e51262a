use Rattle.std.proofs.Common.{refl}
use Rattle.cw_types.specs.declared.logs.LogName.TheVariants.{Txn}
use Rattle.cw_model.specs.EventsLeading.{claim_lead}
use Rattle.cw_herder.specs.declared.op.OpDone.TheVariants as done
use Rattle.cw_herder.specs.Operations.{claims}
use Rattle.cw_herder.proofs.Done.{done-op, failed-op}
use Rattle.cw_herder.proofs.operations.claim.Goals as goal

pub returns-in-Ok : goal.returns-in-Ok
returns-in-Ok g c = done-op g.D.Disk (claim_lead c.args.w) done.Lead (claims c.args.w) c.args.world.now c.claim_lead.new.self
    c.claim_lead.result refl Txn c.claim_lead.ensures c.in-Ok.epoch c.in-Ok.is

pub returns-in-Err : goal.returns-in-Err
returns-in-Err g c = failed-op g.D.Disk (claim_lead c.args.w) done.Lead (claims c.args.w) c.args.world.now c.claim_lead.new.self
    c.claim_lead.result refl Txn c.claim_lead.ensures c.in-Err.fault c.in-Err.is
