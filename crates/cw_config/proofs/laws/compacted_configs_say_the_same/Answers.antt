use Rattle.cw_config.proofs.Kept.{compacted}
use Rattle.cw_config.proofs.laws.compacted_configs_say_the_same.Goals as goal

pub returns : goal.returns
returns c = compacted
