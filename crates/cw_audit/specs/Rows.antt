-- Lines of a report under their texts, as a table has them. Internal: no public contract cites this.
use Rattle.std.specs.Prelude.{ℕ, List}
use Rattle.std.specs.List.{filter, filter_map, flat_map, fold}
use Rattle.std.specs.BTreeMap.{insert_entry}
use Rattle.std.specs.Map.{values_of}
use Rattle.cw_types.specs.Order.{name_cmp}
use Rattle.cw_types.specs.declared.ids.PartKey.{PartKey}
use Rattle.cw_types.specs.Text.{tid_text}
use Rattle.cw_keys.specs.Parts.{part_text}
use Rattle.cw_config.specs.declared.records.ConfigRecord.{ConfigRecord}
use Rattle.cw_txn.specs.declared.entry.Entry.{Entry}
use Rattle.cw_audit.specs.Listed.{bumped_in, id_line, is_owned, offsets_line, committed_in, tasks_line}

-- rows, each a text and a line, rising by the texts
abbrev pub Rows : Type 0
Rows = List (List ℕ × List ℕ)

-- the lines one behind the other
abbrev pub lines_in : Rows → List ℕ
lines_in rows = flat_map (λ line. line) (values_of rows)

-- the row of a thing
abbrev pub row_of : {A : Type 0} → (text line : A → List ℕ) → A → List ℕ × List ℕ
row_of text line x = (text x, line x)

-- the rows with those of more things
abbrev pub with_rows : {A : Type 0} → (text line : A → List ℕ) → List A → Rows → Rows
with_rows text line xs rows = fold (λ rows x. insert_entry name_cmp rows (text x) (line x)) rows xs

-- with those of the ids that more entries raise, by the epochs that all entries tell
abbrev pub with_ids : (group : List ℕ) → (entries : List Entry) → (more : List Entry) → Rows → Rows
with_ids group entries more rows =
    with_rows (tid_text group) (id_line group entries) (filter_map bumped_in more) rows

-- with those of more parts, as far as they are connectors', by the offsets that all entries tell
abbrev pub with_parts : (entries : List Entry) → (more : List PartKey) → Rows → Rows
with_parts entries more rows = with_rows part_text (offsets_line entries) (filter is_owned more) rows

-- with those of the connectors whose task sets more records commit, by what all records tell
abbrev pub with_connectors : (records : List ConfigRecord) → (more : List ConfigRecord) → Rows → Rows
with_connectors records more rows =
    with_rows (λ name. name) (tasks_line records) (filter_map committed_in more) rows
