use Rattle.std.proofs.Common.{◌<◌, true, false, length, refl, sym, ap, subst, ◌∙◌}
use Rattle.cw_feed.specs.declared.cut.CutAnswer.TheVariants.{AtEnd}
use Rattle.cw_model.specs.declared.did.Did.TheVariants as did
use Rattle.cw_model.specs.declared.instance.Instance.{Instance}
use Rattle.cw_model.specs.declared.instance.InstancePhase.TheVariants as phase
use Rattle.cw_model.specs.State.{Cluster}
use Rattle.cw_model.specs.Lookups.{instance_of}
use Rattle.cw_model.specs.Steps.{polls, step}
use Rattle.cw_sourcetask.specs.Sourced.{source_does}
use Rattle.cw_tasks.proofs.Stepped.{worker-there, step-waits, step-does, waited, is-in, looked}
use Rattle.cw_sourcetask.proofs.Handed.{elsewhere}
use Rattle.cw_tasks.proofs.Told.{acts-is, idle}
use Rattle.cw_sourcetask.proofs.steps.poll_step.Goals as goal

pub waits-requires-clause-worker : goal.waits-requires-clause-worker
waits-requires-clause-worker g c = subst (λ (s : Cluster). (instance_of c.args.i s).worker < length s.rows) (sym c.cluster.ensures.state)
    (worker-there c.args.world.now.setting c.args.world.now.state c.args.i c.is_safe.ensures.facts c.requires.there)

pub poll-requires-clause-polling : goal.poll-requires-clause-polling
poll-requires-clause-polling g c = (is-in c.args.i c.args.world.now.state c.cluster-2.result.now.state c.cluster-2.ensures.state c.instance_of.result.now phase.Polling c.instance_of.ensures c.in-Polling.is)

pub poll-requires-clause-source : goal.poll-requires-clause-source
poll-requires-clause-source g c = c.requires.source (is-in c.args.i c.args.world.now.state c.cluster-2.result.now.state c.cluster-2.ensures.state c.instance_of.result.now phase.Polling c.instance_of.ensures c.in-Polling.is)

pub returns-then-waits : goal.returns-then-waits
returns-then-waits g c = idle g.D.Disk (step c.args.world.now.setting c.args.i) c.args.world.now did.Paused (step-waits c.args.world.now.setting c.args.i c.args.world.now.state (waited c.args.i c.args.world.now.state c.cluster.result.now.state c.cluster.ensures.state true c.waits.result c.waits.ensures c.if-waits.true))

pub returns-in-Polling : goal.returns-in-Polling
returns-in-Polling g c = acts-is g.D.Disk (λ s. polls c.args.world.now.setting c.args.i s) (step c.args.world.now.setting c.args.i) c.args.world.now c.poll.new.world c.poll.result
    (step-does c.args.world.now.setting c.args.i c.args.world.now.state (waited c.args.i c.args.world.now.state c.cluster.result.now.state c.cluster.ensures.state false c.waits.result c.waits.ensures c.if-waits.false) phase.Polling (is-in c.args.i c.args.world.now.state c.cluster-2.result.now.state c.cluster-2.ensures.state c.instance_of.result.now phase.Polling c.instance_of.ensures c.in-Polling.is)) c.poll.ensures

pub returns-in_default : goal.returns-in_default
returns-in_default g c = acts-is g.D.Disk (λ s. source_does c.args.world.now.setting c.args.i 0 AtEnd s (instance_of c.args.i s).phase) (step c.args.world.now.setting c.args.i) c.args.world.now c.act.new.world c.act.result
    (step-does c.args.world.now.setting c.args.i c.args.world.now.state (waited c.args.i c.args.world.now.state c.cluster.result.now.state c.cluster.ensures.state false c.waits.result c.waits.ensures c.if-waits.false) (instance_of c.args.i c.args.world.now.state).phase refl ∙
    sym (elsewhere c.args.world.now.setting c.args.i c.args.world.now.state 0 AtEnd (instance_of c.args.i c.args.world.now.state).phase (λ e. c.in_default.not-Polling
    (ap (λ (k : Instance). k.phase) (looked c.args.i c.args.world.now.state c.cluster-2.result.now.state c.cluster-2.ensures.state c.instance_of.result.now c.instance_of.ensures) ∙ e))))
    c.act.ensures
