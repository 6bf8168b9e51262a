-- The entries of the transaction list that events write.
use Rattle.std.specs.Prelude.{ℕ, List, [], ◌∷◌, map, unwrap_or}
use Rattle.cw_types.specs.declared.ids.Epoch.{Epoch}
use Rattle.cw_txn.specs.declared.entry.Entry.{Entry}
use Rattle.cw_txn.specs.declared.entry.Entry.TheVariants.{Commit}
use Rattle.cw_config.specs.declared.records.ConfigRecord.{ConfigRecord}
use Rattle.cw_config.specs.View.{generation_of, fenced_count_of}
use Rattle.cw_model.specs.declared.instance.Instance.{Instance}
use Rattle.cw_model.specs.declared.row.Row.{Row}
use Rattle.cw_model.specs.declared.row.Fencing.{Fencing}
use Rattle.cw_model.specs.EventsLeading.{going_on}
use Rattle.cw_model.specs.EventsRaw.{raw_span, raw_commit_of}
use Rattle.cw_model.specs.Tasks.{tag_of, span_of}

-- what a task commits
abbrev pub commit_of : Instance → Entry
commit_of own = Commit (tag_of own) own.generation (span_of own ∷ [])

-- what a script's producer commits of parts up to new ends
abbrev pub raw_commit_in : ℕ → Epoch → List (ℕ × ℕ) → List Entry → Entry
raw_commit_in n epoch list entries = raw_commit_of n epoch (map (raw_span entries) list) entries

-- how far a leader with this row has fenced a connector's older tasks, by the records that it has read, and by all
abbrev pub fencing_in : Row → (read configs : List ConfigRecord) → List ℕ → Fencing
fencing_in row read configs name = going_on (record {
  connector = name;
  generation = unwrap_or (generation_of name read) 0;
  next = 0;
  count = fenced_count_of name configs;
}) row.fencing
