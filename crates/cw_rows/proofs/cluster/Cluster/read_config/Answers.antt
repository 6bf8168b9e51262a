use Rattle.std.proofs.Common.{◌<◌, [], length, sym, subst}
use Rattle.cw_config.specs.Compaction.{AreAccepted}
use Rattle.cw_rows.specs.Kept.{Kept}
use Rattle.cw_rows.proofs.ClusterLemmas.{further-accepted}
use Rattle.cw_rows.proofs.cluster.Cluster.read_config.Goals as goal

pub read-requires-clause-accepted : goal.read-requires-clause-accepted
read-requires-clause-accepted c =
    let there : c.args.w < length c.self.inside.crew.rows = subst (λ (k : Kept). c.args.w < length k.state.rows) (sym c.self.view_is) c.requires.there in
    let accepted : AreAccepted [] c.self.inside.topics.configs = subst (λ (k : Kept). AreAccepted [] k.state.configs) (sym c.self.view_is) c.requires.accepted in
    rw (c.records.ensures) (further-accepted c.self.inside.topics c.self.inside.crew c.self.invariant c.args.w there accepted)
