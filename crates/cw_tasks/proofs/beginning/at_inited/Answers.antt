use Rattle.std.proofs.Common.{ℕ, refl}
use Rattle.cw_model.specs.declared.did.Did.TheVariants as did
use Rattle.cw_model.specs.EventsSources.{verify}
use Rattle.cw_world.proofs.Acting.{does-acts}
use Rattle.cw_tasks.proofs.Staying.{verify-many, still-there}
use Rattle.cw_tasks.proofs.Told.{done-acts, refused-acts}
use Rattle.cw_tasks.proofs.beginning.at_inited.Goals as goal

pub refuse-requires : goal.refuse-requires
refuse-requires g c = still-there g.D.Disk (verify c.args.i) c.args.world.now c.verify.new.self c.verify.result c.args.i
    (does-acts g.D.Disk (verify c.args.i) c.args.world.now c.verify.new.self c.verify.result c.verify.ensures)
    (verify-many c.args.world.now.state c.args.i) c.requires.there

pub returns-in-Ok : goal.returns-in-Ok
returns-in-Ok g c = done-acts g.D.Disk c.args.i (verify c.args.i) (λ (generation : ℕ). did.Verify generation) c.args.world.now c.verify.new.self c.verify.result
    (does-acts g.D.Disk (verify c.args.i) c.args.world.now c.verify.new.self c.verify.result c.verify.ensures)
    c.in-Ok.generation (did.Verify c.in-Ok.generation) c.in-Ok.is refl refl

pub returns-in-Err : goal.returns-in-Err
returns-in-Err g c = refused-acts g.D.Disk c.args.i (verify c.args.i) (λ (generation : ℕ). did.Verify generation) c.args.world.now c.verify.new.self c.verify.result
    (does-acts g.D.Disk (verify c.args.i) c.args.world.now c.verify.new.self c.verify.result c.verify.ensures)
    c.refuse.new.world c.in-Err.fault c.refuse.result c.in-Err.is c.refuse.ensures
