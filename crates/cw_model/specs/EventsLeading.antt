-- What the leader writes, each under its lead epoch: configs, the bumps that fence the producers of older tasks, the
-- record that says that they are fenced (KIP-618), and offsets that a user sets or resets (KIP-875).
use Rattle.std.specs.Prelude.{◌≡◌, ℕ, ◌+◌, ◌<◌, ◌≤◌, ◌^◌, length, ◌==◌, ◌&&◌, Bool, true, false, List, [], ◌∷◌, ◌++◌}
use Rattle.std.specs.Prelude.{map, All, Option, Some, None, IsSome, unwrap_or, bytes_eq, if◌then◌else◌}
use Rattle.std.specs.List.{range_with_len, IsDistinct}
use Rattle.cw_types.specs.declared.ids.Epoch.{Epoch}
use Rattle.cw_types.specs.declared.ids.Tid.{Tid}
use Rattle.cw_types.specs.declared.ids.Tid.TheVariants.{Lead, Task}
use Rattle.cw_keys.specs.declared.config_key.ConfigKey.TheVariants as key
use Rattle.cw_keys.specs.declared.config_key.ConfigKey.{ConfigKey}
use Rattle.cw_keys.specs.declared.config_value.ConfigValue.{ConfigValue}
use Rattle.cw_keys.specs.declared.config_value.ConfigValue.TheVariants as value
use Rattle.cw_keys.specs.declared.target.Target.TheVariants.{Stopped}
use Rattle.cw_config.specs.View.{generation_of, task_count_of, fenced_count_of, is_pending, target_of}
use Rattle.cw_txn.specs.Body.{IsSet}
use Rattle.cw_txn.specs.declared.entry.SetOffset.{SetOffset}
use Rattle.cw_types.specs.Same.{same_part, connector_of}
use Rattle.cw_rest.specs.Seen.{KeyedValues}
use Rattle.cw_rest.specs.Operations.{offset_entries}
use Rattle.cw_model.specs.declared.fault.WorldFault.TheVariants.{StaleGeneration}
use Rattle.cw_model.specs.declared.row.Row.{Row}
use Rattle.cw_model.specs.declared.row.RowPhase.{RowPhase}
use Rattle.cw_model.specs.declared.row.RowPhase.TheVariants.{Out, Joining, Stable}
use Rattle.cw_model.specs.declared.row.Fencing.{Fencing}
use Rattle.cw_model.specs.State.{Cluster}
use Rattle.cw_model.specs.Lookups.{row_of, seen}
use Rattle.cw_model.specs.ConfigsAllowed.{AreAllowedConfigs, is_fence_key}
use Rattle.cw_model.specs.Answers.{Answer, refused, at_worker}
use Rattle.cw_model.specs.Updates.{changes_row, next_config, stamped, appends_configs, appends_entries, bumps}
use Rattle.cw_model.specs.Updates.{next_epoch, as_leader}

-- whether a worker leads the round of its assignment
abbrev pub leads : ℕ → RowPhase → Bool
leads w Out = false
leads w Joining = false
leads w (Stable round leader) = leader == w

-- a worker with a new lead epoch, which has fenced nobody yet
abbrev pub leading : Epoch → Row → Row
leading epoch row = record row { lead = Some epoch; fencing = None }

-- a leader claims the next lead epoch, and fences whoever led before
abbrev pub claim_lead : ℕ → Cluster → Answer Epoch
claim_lead w = at_worker w (λ s. bumps Lead (changes_row w (leading (next_epoch Lead s))) (next_epoch Lead s) s)

-- the leader of a round claims
abbrev pub MayClaim : ℕ → Cluster → Type 0
MayClaim w s = leads w (row_of w s).phase ≡ true

-- the leader writes records to the config log: the answer is the offset of the first
abbrev pub append_config : ℕ → KeyedValues → Cluster → Answer ℕ
append_config w records = at_worker w (λ s.
    as_leader w (appends_configs (stamped records s) (λ t. t) (next_config s) s) s)

-- 1 to 2^32 - 1 records, each allowed behind those before it, and none a fence
pub record MayAppendConfig (w : ℕ) (records : KeyedValues) (s : Cluster) : Type 0 where
  pub leads : IsSome (row_of w s).lead
  pub some : 1 ≤ length records
  pub few : length records < 2 ^ 32
  pub allowed : AreAllowedConfigs s.configs (stamped records s)
  pub no_fence : All (λ (r : ConfigKey × Option ConfigValue). is_fence_key r.0 ≡ false) records

-- a fencing of a connector's older tasks that has just begun
abbrev pub new_fencing : ℕ → List ℕ → Cluster → Fencing
new_fencing w name s = record {
  connector = name;
  generation = unwrap_or (generation_of name (seen w s)) 0;
  next = 0;
  count = fenced_count_of name s.configs;
}

-- the fencing that a leader goes on with: its own, where that is of this connector and generation
abbrev pub going_on : Fencing → Option Fencing → Fencing
going_on begun None = begun
going_on begun (Some own) =
    if bytes_eq own.connector begun.connector && (own.generation == begun.generation) then own else begun

-- how far a leader has fenced a connector's older tasks
abbrev pub fencing_of : ℕ → List ℕ → Cluster → Fencing
fencing_of w name s = going_on (new_fencing w name s) (row_of w s).fencing

-- the producer that is fenced next
abbrev pub fenced_tid : Fencing → Tid
fenced_tid fencing = Task (record { connector = fencing.connector; index = fencing.next })

-- a leader that has fenced one more
abbrev pub fencing_on : Fencing → Row → Row
fencing_on fencing row = record row { fencing = Some (record fencing { next = fencing.next + 1 }) }

-- the leader fences one producer: the answer is the task's index and the new epoch
abbrev pub fence_one : ℕ → List ℕ → Cluster → Answer (ℕ × Epoch)
fence_one w name = at_worker w (λ s. let fencing = fencing_of w name s in
    as_leader w (bumps (fenced_tid fencing) (changes_row w (fencing_on fencing))
    (fencing.next, next_epoch (fenced_tid fencing) s) s) s)

-- the leader's connector is pending as it has read, and a producer isn't fenced yet
pub record MayFence (w : ℕ) (name : List ℕ) (s : Cluster) : Type 0 where
  pub leads : IsSome (row_of w s).lead
  pub pending : is_pending name (seen w s) ≡ true
  pub left : (fencing_of w name s).next < (fencing_of w name s).count

-- the record that a connector's older tasks are fenced, before this many new ones
abbrev pub fence_record : List ℕ → ℕ → KeyedValues
fence_record name count = (key.Fencing name, Some (value.Fencing count)) ∷ []

-- a worker that fences nobody
abbrev pub without_fencing : Row → Row
without_fencing row = record row { fencing = None }

-- the leader writes that the older tasks are fenced, unless a newer set was committed: the answer is the record's
-- offset
abbrev pub append_fence : ℕ → List ℕ → Cluster → Answer ℕ
append_fence w name = at_worker w (λ s. let own = (fencing_of w name s).generation in
    let newest = unwrap_or (generation_of name s.configs) 0 in
    as_leader w (if own == newest
    then appends_configs (stamped (fence_record name (task_count_of name (seen w s))) s)
    (changes_row w without_fencing) (next_config s) s
    else refused (StaleGeneration own newest) s) s)

-- the leader's connector is pending as it has read, and all producers are fenced
pub record MayAppendFence (w : ℕ) (name : List ℕ) (s : Cluster) : Type 0 where
  pub leads : IsSome (row_of w s).lead
  pub pending : is_pending name (seen w s) ≡ true
  pub done : (fencing_of w name s).next ≡ (fencing_of w name s).count

-- offsets of a stopped connector are set, and whoever produced for it is fenced, all at once
abbrev pub set_offsets : ℕ → List ℕ → List SetOffset → Cluster → Answer (Unit {0})
set_offsets w name list = at_worker w (λ s. as_leader w (appends_entries (offset_entries name
    (fenced_count_of name s.configs) (unwrap_or (row_of w s).lead (record { 0 = 0 })) list) (λ t. t) tt s) s)

-- the connector is stopped, and the parts are its own, none named twice, each with an offset that fits its field
pub record MaySetOffsets (w : ℕ) (name : List ℕ) (list : List SetOffset) (s : Cluster) : Type 0 where
  pub leads : IsSome (row_of w s).lead
  pub stopped : target_of name s.configs ≡ Stopped
  pub own : All (λ set. connector_of set.part ≡ Some name) list
  pub distinct : IsDistinct same_part (map (λ set. set.part) list)
  pub fit : All IsSet list
