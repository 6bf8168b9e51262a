use Rattle.std.proofs.Common.{Result, Ok, Err, inl, sym, subst}
use Rattle.cw_route.specs.declared.reply.Reply.{Reply}
use Rattle.cw_model.specs.declared.fault.WorldFault.{WorldFault}
use Rattle.cw_edges.specs.Requests.{answers}
use Rattle.cw_herder.proofs.Named.{leader-there}
use Rattle.cw_world.specs.World.{Acts}
use Rattle.cw_herder.specs.declared.op.OpDone.{OpDone}
use Rattle.cw_herder.specs.Operations.{op_event}
use Rattle.cw_herder.specs.Submits.{log_of}
use Rattle.cw_herder.proofs.Behind.{refused-acts, read-submits}
use Rattle.cw_herder.proofs.writing_calls.make.Goals as goal

pub op_step-requires-clause-there : goal.op_step-requires-clause-there
op_step-requires-clause-there g c = leader-there c.args.w c.args.leader c.args.world.now.state c.requires.through

pub returns-in-Ok : goal.returns-in-Ok
returns-in-Ok g c =
    let old = c.args.world.now in
    let event = op_event c.args.leader c.args.op.now in
    let mid = c.op_step.new.world in
    let acts : Acts g.D.Disk event old mid (Ok c.in-Ok.field-0) =
    subst (λ (r : Result OpDone WorldFault). Acts g.D.Disk event old mid r) c.in-Ok.is c.op_step.ensures in
    read-submits g.D.Disk event (log_of c.args.op.now) c.args.w c.args.call.now old c.args.answers c.requires.asked.does c.requires.answers
    c.requires.writes mid c.read_back.new.world c.in-Ok.field-0 c.read_back.result acts c.read_back.ensures c.args.leader c.requires.through
    c.requires.asked.leaves

pub returns-in-Err : goal.returns-in-Err
returns-in-Err g c =
    let old = c.args.world.now in
    let call = c.args.call.now in
    let event = op_event c.args.leader c.args.op.now in
    let new = c.op_step.new.world in
    let acts : Acts g.D.Disk event old new (Err c.in-Err.fault) =
    subst (λ (r : Result OpDone WorldFault). Acts g.D.Disk event old new r) c.in-Err.is c.op_step.ensures in
    inl (subst (λ (r : Result Reply WorldFault). Acts g.D.Disk (answers old.setting c.args.w call) old new r) (sym c.refusal_of.ensures)
    (refused-acts g.D.Disk event (log_of c.args.op.now) c.args.w call old c.args.answers c.requires.asked.does c.requires.answers c.requires.writes
    new c.in-Err.fault acts))
