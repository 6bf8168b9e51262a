use Rattle.std.proofs.Common.{List, subst}
use Rattle.cw_bytes.specs.declared.applied.Applied.{Applied}
use Rattle.cw_bytes.specs.Frames.{EachFrom, joined}
use Rattle.cw_status.specs.Compaction.{IsAllowedStatus}
use Rattle.cw_model.specs.StandsFor.{judged}
use Rattle.cw_open.specs.Judging.{Says}
use Rattle.cw_open.proofs.first_harm.status_not_allowed.Goals as goal

pub returns : goal.returns
returns c = subst (λ (l : List (List Applied)). Says (judged (λ before frame. EachFrom IsAllowedStatus (joined before) frame) l) c.in_ok-first.first) c.statuses.ensures c.in_ok-first.ensures
