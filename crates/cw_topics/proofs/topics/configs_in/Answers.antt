use Rattle.std.proofs.Common.{[], List, sym, subst}
use Rattle.cw_config.specs.declared.records.ConfigRecord.{ConfigRecord}
use Rattle.cw_config.specs.Compaction.{AreAccepted, configs_in}
use Rattle.cw_topics.proofs.Opening.{accepted-allowed}
use Rattle.cw_topics.proofs.topics.configs_in.Goals as goal

pub opened-requires : goal.opened-requires
opened-requires c = subst (λ (l : List ConfigRecord). AreAccepted [] l) (sym c.in_ok-records.ensures) (accepted-allowed [] (configs_in c.args.frames.now) c.requires)
