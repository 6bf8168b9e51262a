use Rattle.std.proofs.Common.{refl}
use Rattle.cw_types.specs.declared.logs.LogName.TheVariants.{Config}
use Rattle.cw_model.specs.EventsLeading.{append_config}
use Rattle.cw_herder.specs.declared.op.OpDone.TheVariants as done
use Rattle.cw_herder.specs.Operations.{writes}
use Rattle.cw_herder.proofs.Done.{done-op, failed-op}
use Rattle.cw_herder.proofs.operations.write_records.Goals as goal

pub returns-in-Ok : goal.returns-in-Ok
returns-in-Ok g c = done-op g.D.Disk (append_config c.args.w c.args.records.now) (λ _. done.Written)
    (writes c.args.w c.args.records.now) c.args.world.now c.append_config.new.self
    c.append_config.result refl Config c.append_config.ensures c.in-Ok.field-0 c.in-Ok.is

pub returns-in-Err : goal.returns-in-Err
returns-in-Err g c = failed-op g.D.Disk (append_config c.args.w c.args.records.now) (λ _. done.Written)
    (writes c.args.w c.args.records.now) c.args.world.now c.append_config.new.self
    c.append_config.result refl Config c.append_config.ensures c.in-Err.fault c.in-Err.is
