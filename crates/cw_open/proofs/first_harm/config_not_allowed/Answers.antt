use Rattle.std.proofs.Common.{List, subst}
use Rattle.cw_bytes.specs.declared.applied.Applied.{Applied}
use Rattle.cw_config.specs.Compaction.{configs_in}
use Rattle.cw_model.specs.StandsFor.{judged, IsAllowedFrame}
use Rattle.cw_open.specs.Judging.{Says}
use Rattle.cw_open.proofs.first_harm.config_not_allowed.Goals as goal

pub returns : goal.returns
returns c = subst (λ (l : List (List Applied)). Says (judged (λ before frame. IsAllowedFrame (configs_in before) frame) l) c.in_ok-first.first) c.configs.ensures c.in_ok-first.ensures
