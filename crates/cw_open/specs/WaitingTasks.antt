-- Which tasks wait for their connector's commit, and whose a part is. Internal.
use Rattle.std.specs.Prelude.{◌≡◌, ◌↔◌, ◌⊎◌, ◌==◌, ℕ, ◌<◌, Bool, true, false, not, IsTrue, List, Contains, Option, Some}
use Rattle.std.specs.Prelude.{None, IsSome}
use Rattle.std.specs.BTreeMap.{BTreeMap, get}
use Rattle.cw_types.specs.declared.ids.PartKey.{PartKey}
use Rattle.cw_types.specs.declared.ids.TaskId.{TaskId}
use Rattle.cw_types.specs.Same.{part_order}
use Rattle.cw_config.specs.declared.records.ConfigRecord.{ConfigRecord}
use Rattle.cw_config.specs.View.{deferred_of}
use Rattle.cw_config.specs.Acceptance.{has_tasks}
use Rattle.cw_plugin.specs.Tasks.{ShareNone}
use Rattle.cw_model.specs.ConfigsAllowed.{waiting_parts}

-- so many tasks of a connector wait, and no two share a part
pub record AreReady (before : List ConfigRecord) (name : List ℕ) (count : ℕ) : Type 0 where
  pub tasks : has_tasks name count before ≡ true
  pub apart : (i j : ℕ) → i < j → j < count → ShareNone (waiting_parts before name i) (waiting_parts before name j)

-- whose a part is
abbrev pub owner_of : BTreeMap PartKey ℕ → PartKey → Option ℕ
owner_of owners part = get part_order owners part

-- whether an owner is another one
abbrev pub is_others : Option ℕ → ℕ → Bool
is_others None index = false
is_others (Some owner) index = not (owner == index)

-- a part has no owner but this one
abbrev pub IsFree : BTreeMap PartKey ℕ → ℕ → PartKey → Type 0
IsFree owners index part = (k : ℕ) → owner_of owners part ≡ Some k → k ≡ index

-- parts that have a property got this owner, and else nothing has changed
abbrev pub Gets : (PartKey → Type 0) → ℕ → BTreeMap PartKey ℕ → BTreeMap PartKey ℕ → Type 0
Gets P index old new =
    (q : PartKey) (k : ℕ) → (owner_of new q ≡ Some k) ↔ ((owner_of old q ≡ Some k) ⊎ (P q × (k ≡ index)))

-- a part more of a task: whether it is no other task's; then it is this one's
pub record TakesPart (part : PartKey) (index : ℕ) (old new : BTreeMap PartKey ℕ) (yes : Bool) : Type 0 where
  pub fits : IsTrue yes ↔ IsFree old index part
  pub taken : IsTrue yes → Gets (λ q. part ≡ q) index old new

-- the parts of a task
pub record TakesParts (parts : List PartKey) (index : ℕ) (old new : BTreeMap PartKey ℕ) (yes : Bool) : Type 0 where
  pub fits : IsTrue yes ↔ ((part : PartKey) → Contains parts part → IsFree old index part)
  pub taken : IsTrue yes → Gets (Contains parts) index old new

-- a task waits, and none of its parts is another task's
pub record IsFreeTask (before : List ConfigRecord) (id : TaskId) (owners : BTreeMap PartKey ℕ) : Type 0 where
  pub waits : IsSome (deferred_of id before)
  pub free : (part : PartKey) → Contains (waiting_parts before id.connector id.index) part → IsFree owners id.index part

-- a task more
pub record TakesTask
    (before : List ConfigRecord) (id : TaskId) (old new : BTreeMap PartKey ℕ) (yes : Bool) : Type 0 where
  pub fits : IsTrue yes ↔ IsFreeTask before id old
  pub taken : IsTrue yes → Gets (Contains (waiting_parts before id.connector id.index)) id.index old new
