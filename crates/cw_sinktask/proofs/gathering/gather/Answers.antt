use Rattle.std.proofs.Common.{◌≡◌, ℕ, List, Option, IfOk, option_map, sym, ap, subst, ◌∙◌}
use Rattle.cw_data.specs.declared.entry.DataEntry.{DataEntry}
use Rattle.cw_model.specs.declared.instance.Instance.{Instance}
use Rattle.cw_model.specs.Lookups.{instance_of}
use Rattle.cw_model.specs.Polls.{gathered}
use Rattle.cw_model.specs.State.{Cluster}
use Rattle.cw_edges.specs.Handing.{file_of}
use Rattle.cw_sinktask.specs.declared.delivery.Delivery.{Delivery}
use Rattle.cw_sinktask.specs.Gathered.{into_file}
use Rattle.cw_sinktask.proofs.SinkTasks.{IsSinkTask, sink-task}
use Rattle.cw_sinktask.proofs.gathering.gather.Goals as goal

own-is : (s t : Cluster) (i : ℕ) (own : Instance) → own ≡ instance_of i t → t ≡ s → own ≡ instance_of i s
own-is s t i own is same = is ∙ ap (instance_of i) same

pub gather_of-requires-clause-topics : goal.gather_of-requires-clause-topics
gather_of-requires-clause-topics g c =
    let w = c.args.world.now in
    let is = own-is w.state c.cluster-cluster.result.now.state c.args.i c.instance_of.result.now c.instance_of.ensures c.cluster-cluster.ensures.state in
    (subst IsSinkTask (sym is) (sink-task w.setting w.state c.args.i c.requires.there c.is_safe.ensures.facts c.requires.sink)).topics

pub gather_of-requires-clause-file : goal.gather_of-requires-clause-file
gather_of-requires-clause-file g c =
    let w = c.args.world.now in
    let is = own-is w.state c.cluster-cluster.result.now.state c.args.i c.instance_of.result.now c.instance_of.ensures c.cluster-cluster.ensures.state in
    (subst IsSinkTask (sym is) (sink-task w.setting w.state c.args.i c.requires.there c.is_safe.ensures.facts c.requires.sink)).file

pub returns : goal.returns
returns g c =
    let w = c.args.world.now in
    let is = own-is w.state c.cluster-cluster.result.now.state c.args.i c.instance_of.result.now c.instance_of.ensures c.cluster-cluster.ensures.state in
    let log = c.data_state.ensures ∙ ap (λ (s : Cluster). s.batches) c.cluster-cluster.ensures.state in
    subst (λ (o : Instance). IfOk c.gather_of.result (λ (found : Option Delivery). found ≡ option_map (into_file (file_of o)) (gathered o w.state.batches))) is
    (subst (λ (l : List DataEntry). IfOk c.gather_of.result (λ (found : Option Delivery). found ≡ option_map (into_file (file_of c.instance_of.result.now)) (gathered c.instance_of.result.now l))) log c.gather_of.ensures)
