use Rattle.std.proofs.Common.{rules, ◌<◌, length, sym, subst}
use Rattle.cw_model.specs.State.{Cluster}
use Rattle.cw_model.specs.Lookups.{instance_of}
use Rattle.cw_tasks.proofs.Stepped.{worker-there}
use Rattle.cw_serve.proofs.polling.work_in.Goals as goal

pub waits-requires-clause-worker : goal.waits-requires-clause-worker
waits-requires-clause-worker g c =
    let found : c.args.i < length c.cluster-cluster.result.now.state.instances = search rules in
    let there = subst (λ (s : Cluster). c.args.i < length s.instances) c.cluster-cluster.ensures.state found in
    subst (λ (s : Cluster). (instance_of c.args.i s).worker < length s.rows) (sym c.cluster-cluster.ensures.state)
    (worker-there c.args.world.now.setting c.args.world.now.state c.args.i c.is_safe.ensures.facts there)
