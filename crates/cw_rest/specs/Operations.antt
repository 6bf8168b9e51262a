-- What the operations of Connect's REST API write: records of the config topic, and entries of the transaction list
-- where offsets are set (KIP-875). That a connector which is stopped or removed has no task from then on, in the same
-- frame, is this project's own.
use Rattle.std.specs.Prelude.{ℕ, List, [], ◌∷◌, ◌++◌, map, None, Some}
use Rattle.std.specs.List.{range_with_len}
use Rattle.cw_types.specs.declared.ids.PartKey.{PartKey}
use Rattle.cw_types.specs.declared.ids.Tid.TheVariants.{Lead, Task}
use Rattle.cw_types.specs.declared.ids.Epoch.{Epoch}
use Rattle.cw_keys.specs.declared.target.Target.{Target}
use Rattle.cw_keys.specs.declared.target.Target.TheVariants.{Stopped}
use Rattle.cw_keys.specs.declared.config_key.ConfigKey.TheVariants as key
use Rattle.cw_keys.specs.declared.config_value.ConfigValue.TheVariants as value
use Rattle.cw_config.specs.View.{Properties}
use Rattle.cw_txn.specs.declared.entry.Entry.{Entry}
use Rattle.cw_txn.specs.declared.entry.Entry.TheVariants.{Bump, Set}
use Rattle.cw_txn.specs.declared.entry.SetOffset.{SetOffset}
use Rattle.cw_rest.specs.Seen.{KeyedValues}

-- a connector is made, or gets another config
abbrev pub config_values : List ℕ → Properties → KeyedValues
config_values name props = (key.Connector name, Some (value.Connector props)) ∷ []

-- a connector gets a target state
abbrev pub target_values : List ℕ → Target → KeyedValues
target_values name target = (key.Target name, Some (value.Target target)) ∷ []

-- so many of a connector's tasks take effect
abbrev pub commit_values : List ℕ → ℕ → KeyedValues
commit_values name count = (key.Commit name, Some (value.Commit count)) ∷ []

-- a connector is stopped: it has no tasks any more
abbrev pub stop_values : List ℕ → KeyedValues
stop_values name = commit_values name 0 ++ target_values name Stopped

-- a connector is removed: it has no tasks, no target state and no config
abbrev pub delete_values : List ℕ → KeyedValues
delete_values name = commit_values name 0 ++ (key.Target name, None) ∷ (key.Connector name, None) ∷ []

-- the producers of a connector's fenced tasks get a new epoch each, which fences whoever wrote under an older one
abbrev pub bumps_of : List ℕ → ℕ → List Entry
bumps_of name count = map (λ index. Bump (Task (record { connector = name; index = index }))) (range_with_len 0 count)

-- a connector's offsets are set under a lead epoch, and its producers are fenced, all in one frame
abbrev pub offset_entries : List ℕ → (fenced : ℕ) → Epoch → List SetOffset → List Entry
offset_entries name fenced epoch list = bumps_of name fenced ++ Set Lead epoch list ∷ []

-- offsets of these parts are removed
abbrev pub removals : List PartKey → List SetOffset
removals parts = map (λ part. record { part = part; to = None }) parts
