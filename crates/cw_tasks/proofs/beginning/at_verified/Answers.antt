use Rattle.std.proofs.Common.{refl}
use Rattle.cw_model.specs.declared.did.Did.TheVariants as did
use Rattle.cw_model.specs.EventsSources.{fetch}
use Rattle.cw_world.proofs.Acting.{wants-acts}
use Rattle.cw_tasks.proofs.Staying.{fetch-many, still-there}
use Rattle.cw_tasks.proofs.Told.{done-acts, refused-acts}
use Rattle.cw_tasks.proofs.beginning.at_verified.Goals as goal

pub refuse-requires : goal.refuse-requires
refuse-requires g c = still-there g.D.Disk (fetch c.args.i) c.args.world.now c.fetch.new.self c.fetch.result c.args.i
    (wants-acts g.D.Disk (fetch c.args.i) c.args.world.now c.fetch.new.self c.fetch.result c.fetch.ensures)
    (fetch-many c.args.world.now.state c.args.i) c.requires.there

pub returns-in-Ok : goal.returns-in-Ok
returns-in-Ok g c = done-acts g.D.Disk c.args.i (fetch c.args.i) (λ (done : Unit {0}). did.Fetch) c.args.world.now c.fetch.new.self c.fetch.result
    (wants-acts g.D.Disk (fetch c.args.i) c.args.world.now c.fetch.new.self c.fetch.result c.fetch.ensures)
    tt (did.Fetch) c.in-Ok.is refl refl

pub returns-in-Err : goal.returns-in-Err
returns-in-Err g c = refused-acts g.D.Disk c.args.i (fetch c.args.i) (λ (done : Unit {0}). did.Fetch) c.args.world.now c.fetch.new.self c.fetch.result
    (wants-acts g.D.Disk (fetch c.args.i) c.args.world.now c.fetch.new.self c.fetch.result c.fetch.ensures)
    c.refuse.new.world c.in-Err.fault c.refuse.result c.in-Err.is c.refuse.ensures
