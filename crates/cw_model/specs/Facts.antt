-- All that is known of a state that keeps it safe whatever happens next: it is safe, and the facts of the group, of
-- the logs, of rows and instances, and of producers hold, and the journal is true. An opened state has them, and each
-- event keeps them. They are this project's own.
use Rattle.cw_model.specs.State.{Cluster, Setting}
use Rattle.cw_model.specs.Safe.{IsSafe}
use Rattle.cw_model.specs.FactsGroup.{GroupFacts}
use Rattle.cw_model.specs.FactsLogs.{LogFacts}
use Rattle.cw_model.specs.FactsProducers.{ProducerFacts}
use Rattle.cw_model.specs.FactsRows.{RowFacts}
use Rattle.cw_model.specs.Journal.{IsTrueJournal}

-- a state is safe, and stays so
pub record AreFacts (setting : Setting) (s : Cluster) : Type 0 where
  pub safe : IsSafe setting s
  pub group : GroupFacts s
  pub logs : LogFacts setting s
  pub rows : RowFacts s
  pub producers : ProducerFacts setting s
  pub journal : IsTrueJournal setting s
