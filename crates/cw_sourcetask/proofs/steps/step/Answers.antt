use Rattle.std.proofs.Common.{◌<◌, true, false, length, sym, subst}
use Rattle.cw_model.specs.declared.did.Did.TheVariants as did
use Rattle.cw_model.specs.State.{Cluster}
use Rattle.cw_model.specs.Lookups.{instance_of}
use Rattle.cw_sourcetask.specs.Sourced.{source_does, source_step}
use Rattle.cw_tasks.proofs.Stepped.{worker-there, waited}
use Rattle.cw_sourcetask.proofs.Handed.{handed-waits, handed-does}
use Rattle.cw_tasks.proofs.Told.{acts-is, idle}
use Rattle.cw_sourcetask.proofs.steps.step.Goals as goal

pub waits-requires-clause-worker : goal.waits-requires-clause-worker
waits-requires-clause-worker g c = subst (λ (s : Cluster). (instance_of c.args.i s).worker < length s.rows) (sym c.cluster.ensures.state)
    (worker-there c.args.world.now.setting c.args.world.now.state c.args.i c.is_safe.ensures.facts c.requires.there)

pub returns-then-waits : goal.returns-then-waits
returns-then-waits g c = idle g.D.Disk (source_step c.args.world.now.setting c.args.i c.args.turn c.args.found.now) c.args.world.now did.Paused
    (handed-waits c.args.world.now.setting c.args.i c.args.world.now.state c.args.turn c.args.found.now (waited c.args.i c.args.world.now.state c.cluster.result.now.state c.cluster.ensures.state true c.waits.result c.waits.ensures c.if-waits.true))

pub returns : goal.returns
returns g c = acts-is g.D.Disk (λ s. source_does c.args.world.now.setting c.args.i c.args.turn c.args.found.now s (instance_of c.args.i s).phase) (source_step c.args.world.now.setting c.args.i c.args.turn c.args.found.now)
    c.args.world.now c.act.new.world c.act.result (handed-does c.args.world.now.setting c.args.i c.args.world.now.state c.args.turn c.args.found.now (waited c.args.i c.args.world.now.state c.cluster.result.now.state c.cluster.ensures.state false c.waits.result c.waits.ensures c.if-waits.false)) c.act.ensures
