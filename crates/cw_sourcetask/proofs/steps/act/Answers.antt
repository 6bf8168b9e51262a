use Rattle.cw_model.specs.declared.did.Did.TheVariants as did
use Rattle.cw_model.specs.declared.instance.InstancePhase.TheVariants as phase
use Rattle.cw_model.specs.Lookups.{instance_of}
use Rattle.cw_model.specs.Steps.{takes_cut, does}
use Rattle.cw_sourcetask.specs.Sourced.{source_does}
use Rattle.cw_sourcetask.proofs.Handed.{handed-in}
use Rattle.cw_tasks.proofs.Stepped.{is-in}
use Rattle.cw_tasks.proofs.Told.{acts-is, idle}
use Rattle.cw_sourcetask.proofs.steps.act.Goals as goal

pub at_new-requires-clause-phase : goal.at_new-requires-clause-phase
at_new-requires-clause-phase g c = (is-in c.args.i c.args.world.now.state c.cluster.result.now.state c.cluster.ensures.state c.instance_of.result.now phase.New c.instance_of.ensures c.in-New.is)

pub returns-in-New : goal.returns-in-New
returns-in-New g c = acts-is g.D.Disk (λ s. does c.args.world.now.setting c.args.i s phase.New) (λ s. source_does c.args.world.now.setting c.args.i c.args.turn c.args.found.now s (instance_of c.args.i s).phase) c.args.world.now c.at_new.new.world c.at_new.result
    (handed-in c.args.world.now.setting c.args.i c.args.world.now.state c.args.turn c.args.found.now phase.New (is-in c.args.i c.args.world.now.state c.cluster.result.now.state c.cluster.ensures.state c.instance_of.result.now phase.New c.instance_of.ensures c.in-New.is)) c.at_new.ensures

pub at_inited-requires-clause-phase : goal.at_inited-requires-clause-phase
at_inited-requires-clause-phase g c = (is-in c.args.i c.args.world.now.state c.cluster.result.now.state c.cluster.ensures.state c.instance_of.result.now phase.Inited c.instance_of.ensures c.in-Inited.is)

pub returns-in-Inited : goal.returns-in-Inited
returns-in-Inited g c = acts-is g.D.Disk (λ s. does c.args.world.now.setting c.args.i s phase.Inited) (λ s. source_does c.args.world.now.setting c.args.i c.args.turn c.args.found.now s (instance_of c.args.i s).phase) c.args.world.now c.at_inited.new.world c.at_inited.result
    (handed-in c.args.world.now.setting c.args.i c.args.world.now.state c.args.turn c.args.found.now phase.Inited (is-in c.args.i c.args.world.now.state c.cluster.result.now.state c.cluster.ensures.state c.instance_of.result.now phase.Inited c.instance_of.ensures c.in-Inited.is)) c.at_inited.ensures

pub at_verified-requires-clause-phase : goal.at_verified-requires-clause-phase
at_verified-requires-clause-phase g c = (is-in c.args.i c.args.world.now.state c.cluster.result.now.state c.cluster.ensures.state c.instance_of.result.now phase.Verified c.instance_of.ensures c.in-Verified.is)

pub returns-in-Verified : goal.returns-in-Verified
returns-in-Verified g c = acts-is g.D.Disk (λ s. does c.args.world.now.setting c.args.i s phase.Verified) (λ s. source_does c.args.world.now.setting c.args.i c.args.turn c.args.found.now s (instance_of c.args.i s).phase) c.args.world.now c.at_verified.new.world c.at_verified.result
    (handed-in c.args.world.now.setting c.args.i c.args.world.now.state c.args.turn c.args.found.now phase.Verified (is-in c.args.i c.args.world.now.state c.cluster.result.now.state c.cluster.ensures.state c.instance_of.result.now phase.Verified c.instance_of.ensures c.in-Verified.is)) c.at_verified.ensures

pub at_polling-requires-clause-polling : goal.at_polling-requires-clause-polling
at_polling-requires-clause-polling g c = (is-in c.args.i c.args.world.now.state c.cluster.result.now.state c.cluster.ensures.state c.instance_of.result.now phase.Polling c.instance_of.ensures c.in-Polling.is)

pub at_polling-requires-clause-source : goal.at_polling-requires-clause-source
at_polling-requires-clause-source g c = c.requires.source (is-in c.args.i c.args.world.now.state c.cluster.result.now.state c.cluster.ensures.state c.instance_of.result.now phase.Polling c.instance_of.ensures c.in-Polling.is)

pub at_polling-requires-clause-turn : goal.at_polling-requires-clause-turn
at_polling-requires-clause-turn g c = c.requires.turn (is-in c.args.i c.args.world.now.state c.cluster.result.now.state c.cluster.ensures.state c.instance_of.result.now phase.Polling c.instance_of.ensures c.in-Polling.is)

pub returns-in-Polling : goal.returns-in-Polling
returns-in-Polling g c = acts-is g.D.Disk (λ s. takes_cut c.args.world.now.setting c.args.i s c.args.turn c.args.found.now) (λ s. source_does c.args.world.now.setting c.args.i c.args.turn c.args.found.now s (instance_of c.args.i s).phase) c.args.world.now c.at_polling.new.world c.at_polling.result
    (handed-in c.args.world.now.setting c.args.i c.args.world.now.state c.args.turn c.args.found.now phase.Polling (is-in c.args.i c.args.world.now.state c.cluster.result.now.state c.cluster.ensures.state c.instance_of.result.now phase.Polling c.instance_of.ensures c.in-Polling.is)) c.at_polling.ensures

pub at_produced-requires-clause-phase : goal.at_produced-requires-clause-phase
at_produced-requires-clause-phase g c = (is-in c.args.i c.args.world.now.state c.cluster.result.now.state c.cluster.ensures.state c.instance_of.result.now phase.Produced c.instance_of.ensures c.in-Produced.is)

pub returns-in-Produced : goal.returns-in-Produced
returns-in-Produced g c = acts-is g.D.Disk (λ s. does c.args.world.now.setting c.args.i s phase.Produced) (λ s. source_does c.args.world.now.setting c.args.i c.args.turn c.args.found.now s (instance_of c.args.i s).phase) c.args.world.now c.at_produced.new.world c.at_produced.result
    (handed-in c.args.world.now.setting c.args.i c.args.world.now.state c.args.turn c.args.found.now phase.Produced (is-in c.args.i c.args.world.now.state c.cluster.result.now.state c.cluster.ensures.state c.instance_of.result.now phase.Produced c.instance_of.ensures c.in-Produced.is)) c.at_produced.ensures

pub at_offered-requires-clause-phase : goal.at_offered-requires-clause-phase
at_offered-requires-clause-phase g c = (is-in c.args.i c.args.world.now.state c.cluster.result.now.state c.cluster.ensures.state c.instance_of.result.now phase.Offered c.instance_of.ensures c.in-Offered.is)

pub returns-in-Offered : goal.returns-in-Offered
returns-in-Offered g c = acts-is g.D.Disk (λ s. does c.args.world.now.setting c.args.i s phase.Offered) (λ s. source_does c.args.world.now.setting c.args.i c.args.turn c.args.found.now s (instance_of c.args.i s).phase) c.args.world.now c.at_offered.new.world c.at_offered.result
    (handed-in c.args.world.now.setting c.args.i c.args.world.now.state c.args.turn c.args.found.now phase.Offered (is-in c.args.i c.args.world.now.state c.cluster.result.now.state c.cluster.ensures.state c.instance_of.result.now phase.Offered c.instance_of.ensures c.in-Offered.is)) c.at_offered.ensures

pub at_delivered-requires-clause-phase : goal.at_delivered-requires-clause-phase
at_delivered-requires-clause-phase g c = (is-in c.args.i c.args.world.now.state c.cluster.result.now.state c.cluster.ensures.state c.instance_of.result.now phase.Delivered c.instance_of.ensures c.in-Delivered.is)

pub returns-in-Delivered : goal.returns-in-Delivered
returns-in-Delivered g c = acts-is g.D.Disk (λ s. does c.args.world.now.setting c.args.i s phase.Delivered) (λ s. source_does c.args.world.now.setting c.args.i c.args.turn c.args.found.now s (instance_of c.args.i s).phase) c.args.world.now c.at_delivered.new.world c.at_delivered.result
    (handed-in c.args.world.now.setting c.args.i c.args.world.now.state c.args.turn c.args.found.now phase.Delivered (is-in c.args.i c.args.world.now.state c.cluster.result.now.state c.cluster.ensures.state c.instance_of.result.now phase.Delivered c.instance_of.ensures c.in-Delivered.is)) c.at_delivered.ensures

pub returns-in-Connector : goal.returns-in-Connector
returns-in-Connector g c = idle g.D.Disk (λ s. source_does c.args.world.now.setting c.args.i c.args.turn c.args.found.now s (instance_of c.args.i s).phase) c.args.world.now did.AtEnd
    (handed-in c.args.world.now.setting c.args.i c.args.world.now.state c.args.turn c.args.found.now phase.Connector (is-in c.args.i c.args.world.now.state c.cluster.result.now.state c.cluster.ensures.state c.instance_of.result.now phase.Connector c.instance_of.ensures c.in-Connector.is))

pub returns-in-Failed : goal.returns-in-Failed
returns-in-Failed g c = idle g.D.Disk (λ s. source_does c.args.world.now.setting c.args.i c.args.turn c.args.found.now s (instance_of c.args.i s).phase) c.args.world.now did.Failed
    (handed-in c.args.world.now.setting c.args.i c.args.world.now.state c.args.turn c.args.found.now phase.Failed (is-in c.args.i c.args.world.now.state c.cluster.result.now.state c.cluster.ensures.state c.instance_of.result.now phase.Failed c.instance_of.ensures c.in-Failed.is))

pub returns-in-Ended : goal.returns-in-Ended
returns-in-Ended g c = idle g.D.Disk (λ s. source_does c.args.world.now.setting c.args.i c.args.turn c.args.found.now s (instance_of c.args.i s).phase) c.args.world.now did.Gone
    (handed-in c.args.world.now.setting c.args.i c.args.world.now.state c.args.turn c.args.found.now phase.Ended (is-in c.args.i c.args.world.now.state c.cluster.result.now.state c.cluster.ensures.state c.instance_of.result.now phase.Ended c.instance_of.ensures c.in-Ended.is))
