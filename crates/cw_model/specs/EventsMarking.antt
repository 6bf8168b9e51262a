-- The leader marks how transactions ended, in the log that holds their records (KIP-98, control records). That each
-- log is marked by its own event, in the order of the log, is this project's own.
use Rattle.std.specs.Prelude.{Bool, Option, None, IsSome, unwrap_or}
use Rattle.cw_types.specs.declared.ids.Tag.{Tag}
use Rattle.cw_types.specs.declared.ids.Tid.TheVariants.{Lead}
use Rattle.cw_types.specs.declared.logs.LogName.{LogName}
use Rattle.cw_types.specs.declared.logs.LogName.TheVariants.{Config, Offsets, Status, Txn, Batches}
use Rattle.cw_txn.specs.Legal.{is_committed, verdict_of}
use Rattle.cw_offset.specs.declared.body.OffsetEntry.TheVariants.{Mark}
use Rattle.cw_offset.specs.Log.{first_unmarked as first_unmarked_offset}
use Rattle.cw_data.specs.declared.entry.DataEntry.TheVariants.{Mark as DataMark}
use Rattle.cw_data.specs.Log.{first_unmarked as first_unmarked_data}
use Rattle.cw_model.specs.State.{Cluster}
use Rattle.cw_model.specs.Answers.{Answer, answered, at_open}
use Rattle.cw_model.specs.Updates.{appends_offset, appends_data}

-- the transaction that a log is to mark next
abbrev pub unmarked_in : LogName → Cluster → Option Tag
unmarked_in Config s = None
unmarked_in Offsets s = first_unmarked_offset (verdict_of s.entries) s.offsets.frames
unmarked_in Status s = None
unmarked_in Txn s = None
unmarked_in Batches s = first_unmarked_data (verdict_of s.entries) s.batches

-- a transaction that never was
abbrev pub no_tag : Tag
no_tag = record { number = 0; epoch = record { 0 = 0 }; tid = Lead }

-- a log gets the marker of a transaction; those of configs, statuses and transactions have none
abbrev pub marks : LogName → Tag → Bool → Cluster → Answer (Tag × Bool)
marks Config tag committed s = answered (tag, committed) s
marks Offsets tag committed s = appends_offset (Mark (record { tag = tag; committed = committed })) (λ t. t)
    (tag, committed) s
marks Status tag committed s = answered (tag, committed) s
marks Txn tag committed s = answered (tag, committed) s
marks Batches tag committed s = appends_data (DataMark tag committed) (λ t. t) (tag, committed) s

-- the first transaction of a log that has ended is marked there: the answer is it, and whether it is committed
abbrev pub mark : LogName → Cluster → Answer (Tag × Bool)
mark log = at_open (λ s. let tag = unwrap_or (unmarked_in log s) no_tag in marks log tag (is_committed tag s.entries) s)

-- the log has such a transaction
abbrev pub MayMark : LogName → Cluster → Type 0
MayMark log s = IsSome (unmarked_in log s)
