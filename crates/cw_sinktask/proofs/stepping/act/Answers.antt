use Rattle.cw_model.specs.declared.did.Did.TheVariants as did
use Rattle.cw_model.specs.declared.instance.InstancePhase.TheVariants as phase
use Rattle.cw_model.specs.Steps.{does, step}
use Rattle.cw_tasks.proofs.Stepped.{is-in, step-does}
use Rattle.cw_tasks.proofs.Told.{acts-is, idle}
use Rattle.cw_sinktask.proofs.stepping.act.Goals as goal

pub at_new-requires-clause-phase : goal.at_new-requires-clause-phase
at_new-requires-clause-phase g c = (is-in c.args.i c.args.world.now.state c.cluster.result.now.state c.cluster.ensures.state c.instance_of.result.now phase.New c.instance_of.ensures c.in-New.is)

pub returns-in-New : goal.returns-in-New
returns-in-New g c = acts-is g.D.Disk (λ s. does c.args.world.now.setting c.args.i s phase.New) (step c.args.world.now.setting c.args.i) c.args.world.now c.at_new.new.world c.at_new.result
    (step-does c.args.world.now.setting c.args.i c.args.world.now.state c.requires.goes_on phase.New (is-in c.args.i c.args.world.now.state c.cluster.result.now.state c.cluster.ensures.state c.instance_of.result.now phase.New c.instance_of.ensures c.in-New.is)) c.at_new.ensures

pub at_inited-requires-clause-phase : goal.at_inited-requires-clause-phase
at_inited-requires-clause-phase g c = (is-in c.args.i c.args.world.now.state c.cluster.result.now.state c.cluster.ensures.state c.instance_of.result.now phase.Inited c.instance_of.ensures c.in-Inited.is)

pub returns-in-Inited : goal.returns-in-Inited
returns-in-Inited g c = acts-is g.D.Disk (λ s. does c.args.world.now.setting c.args.i s phase.Inited) (step c.args.world.now.setting c.args.i) c.args.world.now c.at_inited.new.world c.at_inited.result
    (step-does c.args.world.now.setting c.args.i c.args.world.now.state c.requires.goes_on phase.Inited (is-in c.args.i c.args.world.now.state c.cluster.result.now.state c.cluster.ensures.state c.instance_of.result.now phase.Inited c.instance_of.ensures c.in-Inited.is)) c.at_inited.ensures

pub at_verified-requires-clause-phase : goal.at_verified-requires-clause-phase
at_verified-requires-clause-phase g c = (is-in c.args.i c.args.world.now.state c.cluster.result.now.state c.cluster.ensures.state c.instance_of.result.now phase.Verified c.instance_of.ensures c.in-Verified.is)

pub returns-in-Verified : goal.returns-in-Verified
returns-in-Verified g c = acts-is g.D.Disk (λ s. does c.args.world.now.setting c.args.i s phase.Verified) (step c.args.world.now.setting c.args.i) c.args.world.now c.at_verified.new.world c.at_verified.result
    (step-does c.args.world.now.setting c.args.i c.args.world.now.state c.requires.goes_on phase.Verified (is-in c.args.i c.args.world.now.state c.cluster.result.now.state c.cluster.ensures.state c.instance_of.result.now phase.Verified c.instance_of.ensures c.in-Verified.is)) c.at_verified.ensures

pub at_delivered-requires-clause-phase : goal.at_delivered-requires-clause-phase
at_delivered-requires-clause-phase g c = (is-in c.args.i c.args.world.now.state c.cluster.result.now.state c.cluster.ensures.state c.instance_of.result.now phase.Delivered c.instance_of.ensures c.in-Delivered.is)

pub returns-in-Delivered : goal.returns-in-Delivered
returns-in-Delivered g c = acts-is g.D.Disk (λ s. does c.args.world.now.setting c.args.i s phase.Delivered) (step c.args.world.now.setting c.args.i) c.args.world.now c.at_delivered.new.world c.at_delivered.result
    (step-does c.args.world.now.setting c.args.i c.args.world.now.state c.requires.goes_on phase.Delivered (is-in c.args.i c.args.world.now.state c.cluster.result.now.state c.cluster.ensures.state c.instance_of.result.now phase.Delivered c.instance_of.ensures c.in-Delivered.is)) c.at_delivered.ensures

pub returns-in-Connector : goal.returns-in-Connector
returns-in-Connector g c = idle g.D.Disk (step c.args.world.now.setting c.args.i) c.args.world.now did.AtEnd
    (step-does c.args.world.now.setting c.args.i c.args.world.now.state c.requires.goes_on phase.Connector (is-in c.args.i c.args.world.now.state c.cluster.result.now.state c.cluster.ensures.state c.instance_of.result.now phase.Connector c.instance_of.ensures c.in-Connector.is))

pub returns-in-Failed : goal.returns-in-Failed
returns-in-Failed g c = idle g.D.Disk (step c.args.world.now.setting c.args.i) c.args.world.now did.Failed
    (step-does c.args.world.now.setting c.args.i c.args.world.now.state c.requires.goes_on phase.Failed (is-in c.args.i c.args.world.now.state c.cluster.result.now.state c.cluster.ensures.state c.instance_of.result.now phase.Failed c.instance_of.ensures c.in-Failed.is))

pub returns-in-Ended : goal.returns-in-Ended
returns-in-Ended g c = idle g.D.Disk (step c.args.world.now.setting c.args.i) c.args.world.now did.Gone
    (step-does c.args.world.now.setting c.args.i c.args.world.now.state c.requires.goes_on phase.Ended (is-in c.args.i c.args.world.now.state c.cluster.result.now.state c.cluster.ensures.state c.instance_of.result.now phase.Ended c.instance_of.ensures c.in-Ended.is))
