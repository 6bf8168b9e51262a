use Rattle.std.proofs.Common.{ap, arith}
use Rattle.std.proofs.lemmas.Bool.{ltb-false}
use Rattle.cw_types.specs.declared.logs.LogName.TheVariants.{Config}
use Rattle.cw_laws.proofs.Ticks.{fencing-next}
use Rattle.cw_laws.proofs.Workers.{sound_at}
use Rattle.cw_model.specs.EventsLeading.{append_fence, fencing_of}
use Rattle.cw_herder.specs.declared.op.OpDone.TheVariants as done
use Rattle.cw_herder.specs.Operations.{fences}
use Rattle.cw_herder.proofs.Done.{done-op, failed-op, fences_if}
use Rattle.cw_herder.proofs.operations.write_fence.Goals as goal

pub append_fence-requires-clause-may : goal.append_fence-requires-clause-may
append_fence-requires-clause-may g c =
    let s = c.args.world.now.state in
    let fencing = fencing_of c.args.w c.args.connector.now s in
    record {
      leads = c.requires.due.leads;
      pending = c.requires.due.pending;
      done = omega (
        arith,
        ltb-false fencing.next fencing.count c.requires.done,
        fencing-next c.args.w c.args.connector.now s (sound_at s c.is_safe.ensures.facts.rows c.args.w),
      );
    }

pub returns-in-Ok : goal.returns-in-Ok
returns-in-Ok g c = done-op g.D.Disk (append_fence c.args.w c.args.connector.now) done.Recorded (fences c.args.w c.args.connector.now)
    c.args.world.now c.append_fence.new.self c.append_fence.result (ap (fences_if c.args.w c.args.connector.now c.args.world.now.state) c.requires.done)
    Config c.append_fence.ensures c.in-Ok.offset c.in-Ok.is

pub returns-in-Err : goal.returns-in-Err
returns-in-Err g c = failed-op g.D.Disk (append_fence c.args.w c.args.connector.now) done.Recorded (fences c.args.w c.args.connector.now)
    c.args.world.now c.append_fence.new.self c.append_fence.result (ap (fences_if c.args.w c.args.connector.now c.args.world.now.state) c.requires.done)
    Config c.append_fence.ensures c.in-Err.fault c.in-Err.is
