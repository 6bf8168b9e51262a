-- What the leader marks next in a log: the first transaction of it that has ended and isn't marked there (KIP-98).
use Rattle.std.specs.Prelude.{Bool, unwrap_or}
use Rattle.cw_types.specs.declared.ids.Tag.{Tag}
use Rattle.cw_types.specs.declared.logs.LogName.{LogName}
use Rattle.cw_types.specs.declared.logs.LogName.TheVariants.{Batches}
use Rattle.cw_txn.specs.Legal.{is_committed}
use Rattle.cw_data.specs.declared.entry.DataEntry.{DataEntry}
use Rattle.cw_data.specs.declared.entry.DataEntry.TheVariants.{Mark}
use Rattle.cw_model.specs.State.{Cluster}
use Rattle.cw_model.specs.EventsMarking.{unmarked_in, no_tag}

-- the transaction, and whether it is committed
abbrev pub marked_tag : LogName → Cluster → Tag
marked_tag log s = unwrap_or (unmarked_in log s) no_tag

abbrev pub marked_so : LogName → Cluster → Bool
marked_so log s = is_committed (marked_tag log s) s.entries

-- its marker in the data log
abbrev pub data_marker : Cluster → DataEntry
data_marker s = Mark (marked_tag Batches s) (marked_so Batches s)
