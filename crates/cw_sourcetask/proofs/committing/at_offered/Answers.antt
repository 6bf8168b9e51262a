use Rattle.std.proofs.Common.{refl}
use Rattle.cw_types.specs.declared.logs.LogName.TheVariants.{Txn}
use Rattle.cw_model.specs.declared.did.Did.TheVariants as did
use Rattle.cw_model.specs.EventsSources.{commit}
use Rattle.cw_types.specs.declared.ids.Span.{Span}
use Rattle.cw_world.proofs.Acting.{writes-acts}
use Rattle.cw_sourcetask.proofs.Many.{commit-many}
use Rattle.cw_tasks.proofs.Staying.{still-there}
use Rattle.cw_tasks.proofs.Told.{done-acts, refused-acts}
use Rattle.cw_sourcetask.proofs.committing.at_offered.Goals as goal

pub refuse-requires : goal.refuse-requires
refuse-requires g c = still-there g.D.Disk (commit c.args.i) c.args.world.now c.commit.new.self c.commit.result c.args.i
    (writes-acts g.D.Disk (commit c.args.i) c.args.world.now c.commit.new.self Txn c.commit.result c.commit.ensures)
    (commit-many c.args.world.now.state c.args.i) c.requires.there

pub returns-in-Ok : goal.returns-in-Ok
returns-in-Ok g c = done-acts g.D.Disk c.args.i (commit c.args.i) (λ (span : Span). did.Commit span) c.args.world.now c.commit.new.self c.commit.result
    (writes-acts g.D.Disk (commit c.args.i) c.args.world.now c.commit.new.self Txn c.commit.result c.commit.ensures)
    c.in-Ok.span (did.Commit c.in-Ok.span) c.in-Ok.is refl refl

pub returns-in-Err : goal.returns-in-Err
returns-in-Err g c = refused-acts g.D.Disk c.args.i (commit c.args.i) (λ (span : Span). did.Commit span) c.args.world.now c.commit.new.self c.commit.result
    (writes-acts g.D.Disk (commit c.args.i) c.args.world.now c.commit.new.self Txn c.commit.result c.commit.ensures)
    c.refuse.new.world c.in-Err.fault c.refuse.result c.in-Err.is c.refuse.ensures
