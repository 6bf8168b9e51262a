-- What the tables keep of the records, so that no look-up walks them: of each key what its last record says, and
-- of a task whose last record waits for a commit, what the last one says that was committed. Internal: no public
-- contract cites this.
use Rattle.std.specs.Prelude.{◌≡◌, ◌≤◌, ℕ, ◌+◌, Bool, true, List, [], ◌∷◌, Option, Some, None, IsSome, is_some}
use Rattle.std.specs.Prelude.{option_map, option_and_then, nat_lt, if◌then◌else◌}
use Rattle.std.specs.Bool.{⊤}
use Rattle.std.specs.List.{list_all, range_with_len}
use Rattle.std.specs.BTreeMap.{BTreeMap, get}
use Rattle.std.specs.declared.cmp.Ordering.{Ordering}
use Rattle.cw_types.specs.Order.{name_cmp}
use Rattle.cw_types.specs.declared.ids.TaskId.{TaskId}
use Rattle.cw_types.specs.contracts.ids.TaskIdOrd.TheImpl as task_ord
use Rattle.cw_keys.specs.declared.config_key.ConfigKey.{ConfigKey}
use Rattle.cw_keys.specs.declared.config_key.ConfigKey.TheVariants.{Connector, Task, Commit, Target, Fencing}
use Rattle.cw_keys.specs.declared.config_value.ConfigValue.{ConfigValue}
use Rattle.cw_config.specs.declared.records.ConfigRecord.{ConfigRecord}
use Rattle.cw_config.specs.declared.tables.Stored.{Stored}
use Rattle.cw_config.specs.declared.tables.TaskRow.{TaskRow}
use Rattle.cw_config.specs.declared.tables.Tables.{Tables}
use Rattle.cw_config.specs.Records.{has_key, last_of}
use Rattle.cw_config.specs.View.{generation_of, committed_record}
use Rattle.cw_config.specs.Acceptance.{end_of}
use Rattle.cw_config.specs.Rows.{row_at}

-- the order of tasks as keys of a table
abbrev pub task_order : TaskId → TaskId → Ordering
task_order = task_ord.cmp-value.it

-- what a record says of its key
abbrev pub stored_of : ConfigRecord → Stored
stored_of r = record { offset = r.offset; value = r.value }

abbrev pub stored_in : Option ConfigRecord → Option Stored
stored_in None = None
stored_in (Some r) = Some (stored_of r)

-- the value that it says
abbrev pub value_in : Option Stored → Option ConfigValue
value_in stored = option_and_then (λ s. s.value) stored

-- its offset
abbrev pub offset_in : Option Stored → Option ℕ
offset_in stored = option_map (λ s. s.offset) stored

-- whether it stands behind a generation; behind none all does
abbrev pub is_later : Option ℕ → Stored → Bool
is_later None s = true
is_later (Some generation) s = nat_lt generation s.offset

abbrev pub if_later : Option ℕ → Option Stored → Option Stored
if_later generation None = None
if_later generation (Some s) = if is_later generation s then Some s else None

-- a task's last record
abbrev pub last_in : Option TaskRow → Option Stored
last_in None = None
last_in (Some row) = Some row.last

-- its last one before a generation
abbrev pub committed_in : Option ℕ → Option TaskRow → Option Stored
committed_in generation None = None
committed_in generation (Some row) = if is_later generation row.last then row.older else Some row.last

-- its last one behind a generation
abbrev pub deferred_in : Option ℕ → Option TaskRow → Option Stored
deferred_in generation row = if_later generation (last_in row)

-- a task's row behind one more record
abbrev pub row_behind : Option ℕ → Option TaskRow → Stored → TaskRow
row_behind generation row stored = record { last = stored; older = committed_in generation row }

-- the rows of names and of tasks
abbrev pub named_at : BTreeMap (List ℕ) (Option Stored) → List ℕ → Option Stored
named_at table name = row_at name_cmp table name

abbrev pub task_at : BTreeMap TaskId (Option TaskRow) → TaskId → Option TaskRow
task_at table id = row_at task_order table id

-- the generation that the tables tell
abbrev pub generation_at : Tables → List ℕ → Option ℕ
generation_at tables name = offset_in (named_at tables.commits name)

-- whether a task waits for a commit
abbrev pub is_deferred : Tables → List ℕ → ℕ → Bool
is_deferred tables name index =
    let id : TaskId = record { connector = name; index = index } in
    is_some (deferred_in (generation_at tables name) (task_at tables.tasks id))

-- whether each task below a count does
abbrev pub have_tasks : Tables → List ℕ → ℕ → Bool
have_tasks tables name count = list_all (is_deferred tables name) (range_with_len 0 count)

-- one above the last offset, 0 where there is none
abbrev pub end_at : Option ℕ → ℕ
end_at None = 0
end_at (Some offset) = offset + 1

-- what the row of a task says of it
pub record KeepsTask (row : Option TaskRow) (id : TaskId) (records : List ConfigRecord) : Type 0 where
  pub last : last_in row ≡ stored_in (last_of (Task id) records)
  pub committed : committed_in (generation_of id.connector records) row ≡ stored_in (committed_record id records)

-- offsets rise, from one on
abbrev pub RisesFrom : ℕ → List ConfigRecord → Type 0
RisesFrom low [] = ⊤
RisesFrom low (r ∷ records) = (low ≤ r.offset) × RisesFrom (r.offset + 1) records

-- the tables are those of the records
pub record Keeps (tables : Tables) (records : List ConfigRecord) : Type 0 where
  pub rises : RisesFrom 0 records
  pub end : end_at tables.last ≡ end_of records
  pub connectors : (name : List ℕ) → named_at tables.connectors name ≡ stored_in (last_of (Connector name) records)
  pub commits : (name : List ℕ) → named_at tables.commits name ≡ stored_in (last_of (Commit name) records)
  pub targets : (name : List ℕ) → named_at tables.targets name ≡ stored_in (last_of (Target name) records)
  pub fences : (name : List ℕ) → named_at tables.fences name ≡ stored_in (last_of (Fencing name) records)
  pub tasks : (id : TaskId) → KeepsTask (task_at tables.tasks id) id records

-- what one more record makes of the row of a key
abbrev pub puts_row : (key : ConfigKey) → ConfigRecord → Option Stored → Option Stored
puts_row key r was = if has_key key r then Some (stored_of r) else was

abbrev pub puts_task : Option ℕ → TaskId → ConfigRecord → Option TaskRow → Option TaskRow
puts_task generation id r was = if has_key (Task id) r then Some (row_behind generation was (stored_of r)) else was

-- the tables behind one more record
pub record Puts (r : ConfigRecord) (old new : Tables) : Type 0 where
  pub last : new.last ≡ Some r.offset
  pub connectors : (name : List ℕ) → named_at new.connectors name
      ≡ puts_row (Connector name) r (named_at old.connectors name)
  pub commits : (name : List ℕ) → named_at new.commits name ≡ puts_row (Commit name) r (named_at old.commits name)
  pub targets : (name : List ℕ) → named_at new.targets name ≡ puts_row (Target name) r (named_at old.targets name)
  pub fences : (name : List ℕ) → named_at new.fences name ≡ puts_row (Fencing name) r (named_at old.fences name)
  pub tasks : (id : TaskId) →
      task_at new.tasks id ≡ puts_task (generation_at old id.connector) id r (task_at old.tasks id)

-- a key has a row
abbrev pub HasRow : Tables → ConfigKey → Type 0
HasRow tables (Connector name) = IsSome (get name_cmp tables.connectors name)
HasRow tables (Task id) = IsSome (get task_order tables.tasks id)
HasRow tables (Commit name) = IsSome (get name_cmp tables.commits name)
HasRow tables (Target name) = IsSome (get name_cmp tables.targets name)
HasRow tables (Fencing name) = IsSome (get name_cmp tables.fences name)

-- each of these records has a row
abbrev pub HaveRows : Tables → List ConfigRecord → Type 0
HaveRows tables [] = ⊤
HaveRows tables (r ∷ records) = HasRow tables r.key × HaveRows tables records

-- two tables whose rows say the same
pub record SameRows (old new : Tables) : Type 0 where
  pub last : new.last ≡ old.last
  pub connectors : (name : List ℕ) → named_at new.connectors name ≡ named_at old.connectors name
  pub commits : (name : List ℕ) → named_at new.commits name ≡ named_at old.commits name
  pub targets : (name : List ℕ) → named_at new.targets name ≡ named_at old.targets name
  pub fences : (name : List ℕ) → named_at new.fences name ≡ named_at old.fences name
  pub tasks : (id : TaskId) → task_at new.tasks id ≡ task_at old.tasks id

-- no row is lost
abbrev pub KeepsRows : (old new : Tables) → Type 0
KeepsRows old new = (key : ConfigKey) → HasRow old key → HasRow new key

-- what a state with room for a frame keeps: the tables are those of the records, and each record of the frame has a row
pub record IsReserved (tables : Tables) (records frame : List ConfigRecord) : Type 0 where
  pub kept : Keeps tables records
  pub rows : HaveRows tables frame
