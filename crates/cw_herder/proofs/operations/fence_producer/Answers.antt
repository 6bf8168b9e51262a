use Rattle.std.proofs.Common.{ap}
use Rattle.std.proofs.lemmas.Bool.{ltb-true}
use Rattle.cw_types.specs.declared.logs.LogName.TheVariants.{Txn}
use Rattle.cw_model.specs.EventsLeading.{fence_one, fencing_of}
use Rattle.cw_herder.specs.declared.op.OpDone.TheVariants as done
use Rattle.cw_herder.specs.Operations.{fences}
use Rattle.cw_herder.proofs.Done.{done-op, failed-op, fences_if}
use Rattle.cw_herder.proofs.operations.fence_producer.Goals as goal

pub fence_one-requires-clause-may : goal.fence_one-requires-clause-may
fence_one-requires-clause-may g c = let fencing = fencing_of c.args.w c.args.connector.now c.args.world.now.state in record {
  leads = c.requires.due.leads;
  pending = c.requires.due.pending;
  left = ltb-true fencing.next fencing.count c.requires.left;
}

pub returns-in-Ok : goal.returns-in-Ok
returns-in-Ok g c = done-op g.D.Disk (fence_one c.args.w c.args.connector.now) (λ did. done.Fenced did.0 did.1) (fences c.args.w c.args.connector.now)
    c.args.world.now c.fence_one.new.self c.fence_one.result (ap (fences_if c.args.w c.args.connector.now c.args.world.now.state) c.requires.left)
    Txn c.fence_one.ensures (c.in-Ok.index, c.in-Ok.epoch) c.in-Ok.is

pub returns-in-Err : goal.returns-in-Err
returns-in-Err g c = failed-op g.D.Disk (fence_one c.args.w c.args.connector.now) (λ did. done.Fenced did.0 did.1) (fences c.args.w c.args.connector.now)
    c.args.world.now c.fence_one.new.self c.fence_one.result (ap (fences_if c.args.w c.args.connector.now c.args.world.now.state) c.requires.left)
    Txn c.fence_one.ensures c.in-Err.fault c.in-Err.is
