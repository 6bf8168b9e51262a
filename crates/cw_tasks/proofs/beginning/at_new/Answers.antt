use Rattle.std.proofs.Common.{refl}
use Rattle.cw_types.specs.declared.logs.LogName.TheVariants.{Txn}
use Rattle.cw_model.specs.declared.did.Did.TheVariants as did
use Rattle.cw_model.specs.EventsSources.{init}
use Rattle.cw_types.specs.declared.ids.Epoch.{Epoch}
use Rattle.cw_world.proofs.Acting.{writes-acts}
use Rattle.cw_tasks.proofs.Staying.{init-many, still-there}
use Rattle.cw_tasks.proofs.Told.{done-acts, refused-acts}
use Rattle.cw_tasks.proofs.beginning.at_new.Goals as goal

pub refuse-requires : goal.refuse-requires
refuse-requires g c = still-there g.D.Disk (init c.args.i) c.args.world.now c.init.new.self c.init.result c.args.i
    (writes-acts g.D.Disk (init c.args.i) c.args.world.now c.init.new.self Txn c.init.result c.init.ensures)
    (init-many c.args.world.now.state c.args.i) c.requires.there

pub returns-in-Ok : goal.returns-in-Ok
returns-in-Ok g c = done-acts g.D.Disk c.args.i (init c.args.i) (λ (epoch : Epoch). did.Init epoch.0) c.args.world.now c.init.new.self c.init.result
    (writes-acts g.D.Disk (init c.args.i) c.args.world.now c.init.new.self Txn c.init.result c.init.ensures)
    c.in-Ok.epoch (did.Init c.in-Ok.epoch.0) c.in-Ok.is refl refl

pub returns-in-Err : goal.returns-in-Err
returns-in-Err g c = refused-acts g.D.Disk c.args.i (init c.args.i) (λ (epoch : Epoch). did.Init epoch.0) c.args.world.now c.init.new.self c.init.result
    (writes-acts g.D.Disk (init c.args.i) c.args.world.now c.init.new.self Txn c.init.result c.init.ensures)
    c.refuse.new.world c.in-Err.fault c.refuse.result c.in-Err.is c.refuse.ensures
