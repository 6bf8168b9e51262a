use Rattle.std.proofs.Common.{subst}
use Rattle.cw_compact.specs.Left.{AreLeft}
use Rattle.cw_status.specs.Compaction.{compact_statuses}
use Rattle.cw_rows.specs.Kept.{Kept}
use Rattle.cw_rows.proofs.cluster.Cluster.left_statuses.Goals as goal

pub returns-in-Ok-clause-left : goal.returns-in-Ok-clause-left
returns-in-Ok-clause-left c = subst (λ (k : Kept). AreLeft k.state.status.frames (compact_statuses k.state.status.frames) c.in-Ok.left) c.self.view_is c.in-Ok.ensures
