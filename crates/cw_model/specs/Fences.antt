-- Fences of a connector's older tasks (KIP-618): behind the record of a fence, no task of an older set commits. That a
-- fence's mark is the length of the transaction list, and a generation the offset of a commit record, is this
-- project's own.
use Rattle.std.specs.Prelude.{◌≡◌, ℕ, ◌≤◌, true, List, ◌∷◌, ◌++◌, length, drop, Option, Some}
use Rattle.std.specs.Bool.{⊤}
use Rattle.std.specs.List.{AllByRecursion, before_last}
use Rattle.cw_keys.specs.declared.config_key.ConfigKey.TheVariants.{Fencing}
use Rattle.cw_config.specs.declared.records.ConfigRecord.{ConfigRecord}
use Rattle.cw_config.specs.Records.{has_key}
use Rattle.cw_config.specs.View.{generation_of}
use Rattle.cw_txn.specs.declared.entry.Entry.{Entry}
use Rattle.cw_txn.specs.declared.entry.Entry.TheVariants.{Bump, Commit, Set}
use Rattle.cw_model.specs.Lookups.{task_connector, list_end, from_place}

-- a fence of a connector stands for a generation, with a mark: the generation is that of the last commit before it,
-- and the mark is its stamp. A fence before which there is no commit, as compaction may leave one, stands for none
pub record StandingFence (records : List ConfigRecord) (name : List ℕ) (generation mark : ℕ) : Type 0 where
  pub before : List ConfigRecord
  pub fence : ConfigRecord
  pub behind : List ConfigRecord
  pub split : records ≡ before ++ fence ∷ behind
  pub fences : has_key (Fencing name) fence ≡ true
  pub stamped : fence.stamp ≡ mark
  pub of_generation : generation_of name before ≡ Some generation

-- the generation for which the last fence of a connector stands
abbrev pub fenced_generation_of : List ℕ → List ConfigRecord → Option ℕ
fenced_generation_of name records = generation_of name (before_last (has_key (Fencing name)) records)

-- an entry is no commit of a task of this connector whose generation is older
abbrev pub IsNotOlder : List ℕ → ℕ → Entry → Type 0
IsNotOlder name generation (Bump tid) = ⊤
IsNotOlder name generation (Commit tag own spans) = task_connector tag.tid ≡ Some name → generation ≤ own
IsNotOlder name generation (Set tid epoch list) = ⊤

-- a mark lies within the transaction list, and no entry from there on is such a commit
pub record HoldsFrom (name : List ℕ) (generation mark : ℕ) (entries : List Entry) : Type 0 where
  pub within : mark ≤ list_end entries
  pub none_older : AllByRecursion (IsNotOlder name generation) (from_place mark entries)
