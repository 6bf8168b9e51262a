use Rattle.cw_model.proofs.EmptyCluster.{empty_is_safe}
use Rattle.cw_model.proofs.judged.empty_cluster_is_safe.Goals as goal

pub returns : goal.returns
returns c = empty_is_safe
