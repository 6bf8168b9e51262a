use Rattle.std.proofs.Common.{refl}
use Rattle.cw_types.specs.declared.logs.LogName.TheVariants.{Offsets}
use Rattle.cw_model.specs.declared.did.Did.TheVariants as did
use Rattle.cw_model.specs.EventsSources.{put_offsets}
use Rattle.cw_world.proofs.Acting.{writes-acts}
use Rattle.cw_sourcetask.proofs.Many.{put_offsets-many}
use Rattle.cw_tasks.proofs.Staying.{still-there}
use Rattle.cw_tasks.proofs.Told.{done-acts, refused-acts}
use Rattle.cw_sourcetask.proofs.committing.at_produced.Goals as goal

pub refuse-requires : goal.refuse-requires
refuse-requires g c = still-there g.D.Disk (put_offsets c.args.i) c.args.world.now c.put_offsets.new.self c.put_offsets.result c.args.i
    (writes-acts g.D.Disk (put_offsets c.args.i) c.args.world.now c.put_offsets.new.self Offsets c.put_offsets.result c.put_offsets.ensures)
    (put_offsets-many c.args.world.now.state c.args.i) c.requires.there

pub returns-in-Ok : goal.returns-in-Ok
returns-in-Ok g c = done-acts g.D.Disk c.args.i (put_offsets c.args.i) (λ (done : Unit {0}). did.Offsets) c.args.world.now c.put_offsets.new.self c.put_offsets.result
    (writes-acts g.D.Disk (put_offsets c.args.i) c.args.world.now c.put_offsets.new.self Offsets c.put_offsets.result c.put_offsets.ensures)
    tt (did.Offsets) c.in-Ok.is refl refl

pub returns-in-Err : goal.returns-in-Err
returns-in-Err g c = refused-acts g.D.Disk c.args.i (put_offsets c.args.i) (λ (done : Unit {0}). did.Offsets) c.args.world.now c.put_offsets.new.self c.put_offsets.result
    (writes-acts g.D.Disk (put_offsets c.args.i) c.args.world.now c.put_offsets.new.self Offsets c.put_offsets.result c.put_offsets.ensures)
    c.refuse.new.world c.in-Err.fault c.refuse.result c.in-Err.is c.refuse.ensures
