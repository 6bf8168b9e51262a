-- The clean point of the config log, found in one pass: of each connector the offset of the last commit and the highest
-- offset of a task's config tell whether one waits.
use Rattle.std.specs.Prelude.{◌≡◌, ℕ, Bool, true, false, nat_lt, List, length, Option, Some, None, unwrap_or, bytes_eq}
use Rattle.std.specs.Prelude.{if◌then◌else◌}
use Rattle.std.specs.Option.{option_map_or}
use Rattle.std.specs.List.{fold}
use Rattle.std.specs.BTreeMap.{BTreeMap, get, is_at}
use Rattle.std.specs.BTreeSet.{BTreeSet, contains}
use Rattle.cw_types.specs.Order.{name_cmp}
use Rattle.cw_config.specs.declared.records.ConfigRecord.{ConfigRecord}
use Rattle.cw_config.specs.View.{generation_of}
use Rattle.cw_config.specs.Compaction.{connector_of_task, clean_point}
use Rattle.cw_compact.specs.Lasts.{higher}
use Rattle.cw_compact.specs.declared.clean.TaskSet.{TaskSet}
use Rattle.cw_compact.specs.declared.clean.Clean.{Clean}

-- whether a record is a task's config of a connector
abbrev pub is_task_of : List ℕ → ConfigRecord → Bool
is_task_of name r = option_map_or (λ connector. bytes_eq connector name) (connector_of_task r.key) false

-- the highest offset of a task's config of a connector
abbrev pub highest_task : List ℕ → List ConfigRecord → Option ℕ
highest_task name records =
    fold (λ most r. if is_task_of name r then higher most r.offset else most) None records

-- an offset behind a commit; behind none all is
abbrev pub is_past : Option ℕ → ℕ → Bool
is_past None offset = true
is_past (Some commit) offset = nat_lt commit offset

-- whether a task's config waits
abbrev pub waits : TaskSet → Bool
waits set = option_map_or (is_past set.commit) set.task false

-- the sets of a connector that has none
abbrev pub no_tasks : TaskSet
no_tasks = record { commit = None; task = None }

-- the sets of a connector in a list of records
abbrev pub set_of : List ℕ → List ConfigRecord → TaskSet
set_of name records = record { commit = generation_of name records; task = highest_task name records }

-- ---- what is kept of them

-- what a table says of a connector
abbrev pub set_at : BTreeMap (List ℕ) TaskSet → List ℕ → TaskSet
set_at sets name = unwrap_or (get name_cmp sets name) no_tasks

-- one connector's sets are set
abbrev pub Sets : List ℕ → TaskSet → (old new : BTreeMap (List ℕ) TaskSet) → Type 0
Sets name set old new = (q : List ℕ) → set_at new q ≡ (if is_at (name_cmp name) q then set else set_at old q)

-- the table has the sets of each connector, and those are listed of which one waits
pub record AreSets (sets : BTreeMap (List ℕ) TaskSet) (waiting : BTreeSet (List ℕ)) (records : List ConfigRecord)
    : Type 0 where
  pub sets_are : (name : List ℕ) → set_at sets name ≡ set_of name records
  pub waiting_are : (name : List ℕ) → contains name_cmp waiting name ≡ waits (set_of name records)

-- all that is known of a list of records
pub record IsClean (clean : Clean) (records : List ConfigRecord) : Type 0 where
  pub sets : AreSets clean.sets clean.waiting records
  pub count : clean.count ≡ length records
  pub point : clean.point ≡ clean_point records
