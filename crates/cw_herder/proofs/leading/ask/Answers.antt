use Rattle.std.proofs.Common.{Result, Ok, ◌∙◌, sym, ap}
use Rattle.cw_model.specs.declared.fault.WorldFault.{WorldFault}
use Rattle.cw_model.specs.declared.tick.Tick.{Tick}
use Rattle.cw_model.specs.TickRules.{told, or_lost}
use Rattle.cw_herder.specs.declared.op.OpDone.{OpDone}
use Rattle.cw_herder.specs.Operations.{op_event, tick_of}
use Rattle.cw_herder.proofs.Ticked.{asked-tick}
use Rattle.cw_herder.proofs.leading.ask.Goals as goal

pub returns-in-Ok : goal.returns-in-Ok
returns-in-Ok g c = asked-tick g.D.Disk (op_event c.args.leader c.args.op) (λ did _. tick_of c.args.op did) c.args.w c.args.world.now c.op_step.new.world
    c.op_step.result (Ok c.tick_of.result) c.requires.live c.requires.asked.rule
    (ap (λ (t : Tick). Ok t) c.tick_of.ensures ∙ sym (ap (λ (r : Result OpDone WorldFault). or_lost (told r (tick_of c.args.op))) c.in-Ok.is)) c.op_step.ensures

pub returns-in-Err : goal.returns-in-Err
returns-in-Err g c = asked-tick g.D.Disk (op_event c.args.leader c.args.op) (λ did _. tick_of c.args.op did) c.args.w c.args.world.now c.op_step.new.world
    c.op_step.result c.unless_lost.result c.requires.live c.requires.asked.rule
    (c.unless_lost.ensures ∙ sym (ap (λ (r : Result OpDone WorldFault). or_lost (told r (tick_of c.args.op))) c.in-Err.is)) c.op_step.ensures
