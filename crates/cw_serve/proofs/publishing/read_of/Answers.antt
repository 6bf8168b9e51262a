use Rattle.std.proofs.Common.{◌<◌, length, sym, subst}
use Rattle.cw_laws.proofs.Sync.{live-within}
use Rattle.cw_model.specs.State.{Cluster}
use Rattle.cw_serve.proofs.publishing.read_of.Goals as goal

pub row_of-requires : goal.row_of-requires
row_of-requires g c = subst (λ (s : Cluster). c.args.w < length s.rows) (sym c.cluster.ensures.state) (live-within c.args.w c.args.world.now.state c.requires)
