use Rattle.std.proofs.Common.{◌≡◌, codes, ap, subst, ◌∙◌}
use Rattle.cw_model.specs.State.{Cluster}
use Rattle.cw_world.specs.World.{WorldState}
use Rattle.cw_cluster.specs.declared.running.Running.{Running}
use Rattle.cw_cluster.specs.Breaking.{IsAlive, ran_of}
use Rattle.cw_cluster.specs.Driven.{IsLeft}
use Rattle.cw_gen.proofs.Summed.{counted-so}
use Rattle.cw_gen.proofs.summing.look.Goals as goal

pub returns-clause-records : goal.returns-clause-records
returns-clause-records g c =
    let world = c.args.player.running.world in
    let state-is : c.cluster-cluster.result.now.state ≡ world.state =
    c.cluster-cluster.ensures.state ∙ ap (λ (w : WorldState g.row.D.Denot). w.state) c.world-2.ensures in
    c.count_records-records.ensures
    ∙ counted-so c.args.topic.now (codes "t") _ world.state.entries _ world.state.batches c.requires.topic
    (c.coordinator-2.ensures ∙ ap (λ (s : Cluster). s.entries) state-is) (c.data_state.ensures ∙ ap (λ (s : Cluster). s.batches) state-is)

pub returns-clause-disks : goal.returns-clause-disks
returns-clause-disks g c =
    let G = g.D.Disk in let O = g.U.Outlet in
    let given = c.give_back-disks.result in
    let left = subst (λ (r : Running g.row.K.Denot g.row.D.Denot g.row.U.Denot g.K.Begun G O). IsAlive G r.world → IsLeft G O given.0 given.1 (ran_of G O r.world r.outlet))
    c.into_running.ensures c.give_back-disks.ensures.left in
    (left c.requires.alive).disks c.requires.tells
