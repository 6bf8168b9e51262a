-- The logs as they are kept in memory, and what follows from them.
use Rattle.std.specs.Prelude.{List}
use Rattle.cw_bytes.specs.declared.applied.Applied.{Applied}
use Rattle.cw_txn.specs.declared.entry.Entry.{Entry}
use Rattle.cw_txn.specs.Transactions.{Transactions}
use Rattle.cw_data.specs.DataLog.{DataLog}
use Rattle.cw_config.specs.declared.records.ConfigRecord.{ConfigRecord}
use Rattle.cw_model.specs.State.{Paired}
use Rattle.cw_topics.specs.Statuses.{StatusList}
use Rattle.cw_topics.specs.Offsets.{OffsetLogState}

-- what the logs hold, and what follows from it
pub record TopicsState : Type 0 where
  pub config : Paired (List Applied)
  pub offsets : OffsetLogState
  pub status : Paired (List Applied)
  pub txn : List (List Entry)
  pub configs : List ConfigRecord
  pub statuses : StatusList
  pub entries : Transactions
  pub batches : DataLog
  -- the records of the config log for whose writing memory was taken
  pub ready_configs : List ConfigRecord
