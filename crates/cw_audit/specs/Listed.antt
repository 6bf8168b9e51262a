-- What is listed in a report on a stopped cluster: its producers' ids, the parts of its connectors, and the connectors
-- that have a task set (KIP-618, KIP-875). That each is listed once, rising by its text, is this project's own.
use Rattle.std.specs.Prelude.{◌≡◌, ℕ, Bool, false, not, List, [], Option, Some, None, map, unwrap_or, Contains}
use Rattle.std.specs.List.{filter, filter_map, flat_map}
use Rattle.cw_types.specs.declared.ids.Tid.{Tid}
use Rattle.cw_types.specs.declared.ids.PartKey.{PartKey}
use Rattle.cw_types.specs.Text.{tid_text}
use Rattle.cw_keys.specs.Parts.{is_raw, part_text}
use Rattle.cw_keys.specs.declared.config_key.ConfigKey.{ConfigKey}
use Rattle.cw_keys.specs.declared.config_key.ConfigKey.TheVariants as key
use Rattle.cw_config.specs.declared.records.ConfigRecord.{ConfigRecord}
use Rattle.cw_config.specs.View.{generation_of, task_count_of, is_pending}
use Rattle.cw_txn.specs.declared.entry.Entry.{Entry}
use Rattle.cw_txn.specs.declared.entry.Entry.TheVariants.{Bump, Commit, Set}
use Rattle.cw_txn.specs.History.{base_of, end_of}
use Rattle.cw_txn.specs.Legal.{epoch_of}
use Rattle.cw_audit.specs.Lines.{tid_line, part_line, connector_line}
use Rattle.cw_audit.specs.Rising.{rising_by}

-- ---- the ids of producers

-- the id whose epoch an entry raises
abbrev pub bumped_in : Entry → Option Tid
bumped_in (Bump tid) = Some tid
bumped_in (Commit tag generation spans) = None
bumped_in (Set tid epoch list) = None

-- the ids with an epoch of at least 1, rising by their texts
abbrev pub ids_in : (group : List ℕ) → List Entry → List Tid
ids_in group entries = rising_by (tid_text group) (filter_map bumped_in entries)

-- the line of an id
abbrev pub id_line : (group : List ℕ) → List Entry → Tid → List ℕ
id_line group entries tid = tid_line (tid_text group tid) (epoch_of tid entries)

-- ---- the parts of connectors

-- the parts that an entry names
abbrev pub parts_of : Entry → List PartKey
parts_of (Bump tid) = []
parts_of (Commit tag generation spans) = map (λ span. span.part) spans
parts_of (Set tid epoch list) = map (λ set. set.part) list

-- whether a part is a connector's, and not a script's
abbrev pub is_owned : PartKey → Bool
is_owned part = not (is_raw part)

-- a connector's part that one of these entries names
abbrev pub IsNamedIn : List Entry → PartKey → Type 0
IsNamedIn entries part = (is_raw part ≡ false) × Contains (flat_map parts_of entries) part

-- the parts of connectors that the entries name, rising by their keys
abbrev pub parts_in : List Entry → List PartKey
parts_in entries = rising_by part_text (filter is_owned (flat_map parts_of entries))

-- the line of a part
abbrev pub offsets_line : List Entry → PartKey → List ℕ
offsets_line entries part = part_line (part_text part) (base_of part entries) (end_of part entries)

-- ---- the connectors

-- the connector whose task set a record commits
abbrev pub committed_by : ConfigKey → Option (List ℕ)
committed_by (key.Connector name) = None
committed_by (key.Task id) = None
committed_by (key.Commit name) = Some name
committed_by (key.Target name) = None
committed_by (key.Fencing name) = None

abbrev pub committed_in : ConfigRecord → Option (List ℕ)
committed_in r = committed_by r.key

-- the connectors with a commit record, rising by their names
abbrev pub connectors_in : List ConfigRecord → List (List ℕ)
connectors_in records = rising_by (λ name. name) (filter_map committed_in records)

-- the line of a connector with a task set
abbrev pub tasks_line : List ConfigRecord → List ℕ → List ℕ
tasks_line records name = connector_line name (unwrap_or (generation_of name records) 0) (task_count_of name records)
    (is_pending name records)

-- ---- their lines

-- the lines of all ids with an epoch of at least 1
unfoldable pub id_lines : (group : List ℕ) → List Entry → List ℕ
id_lines group entries = flat_map (id_line group entries) (ids_in group entries)

-- those of all parts of connectors that the entries name
unfoldable pub offsets_lines : List Entry → List ℕ
offsets_lines entries = flat_map (offsets_line entries) (parts_in entries)

-- those of all connectors with a commit record
unfoldable pub tasks_lines : List ConfigRecord → List ℕ
tasks_lines records = flat_map (tasks_line records) (connectors_in records)
