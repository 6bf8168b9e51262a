use Rattle.std.proofs.Common.{refl}
use Rattle.cw_types.specs.declared.logs.LogName.TheVariants.{Txn}
use Rattle.cw_model.specs.EventsLeading.{set_offsets}
use Rattle.cw_herder.specs.declared.op.OpDone.TheVariants as done
use Rattle.cw_herder.specs.Operations.{sets}
use Rattle.cw_herder.proofs.Done.{done-op, failed-op}
use Rattle.cw_herder.proofs.operations.set_offsets.Goals as goal

pub returns-in-Ok : goal.returns-in-Ok
returns-in-Ok g c = done-op g.D.Disk (set_offsets c.args.w c.args.connector.now c.args.list.now) (λ _. done.Written)
    (sets c.args.w c.args.connector.now c.args.list.now) c.args.world.now c.set_offsets.new.self
    c.set_offsets.result refl Txn c.set_offsets.ensures c.in-Ok.field-0 c.in-Ok.is

pub returns-in-Err : goal.returns-in-Err
returns-in-Err g c = failed-op g.D.Disk (set_offsets c.args.w c.args.connector.now c.args.list.now) (λ _. done.Written)
    (sets c.args.w c.args.connector.now c.args.list.now) c.args.world.now c.set_offsets.new.self
    c.set_offsets.result refl Txn c.set_offsets.ensures c.in-Err.fault c.in-Err.is
