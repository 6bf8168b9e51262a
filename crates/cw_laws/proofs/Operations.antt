-- What an operation of the REST API writes may stand in the config log.
use Rattle.std.proofs.Common.{◌≡◌, ◌≢◌, ℕ, ◌<◌, ◌∷◌, ◌++◌, [], false, cond, List, Option, Some, IsSome, length, ◌^◌, refl, ap, ◌∙◌, arith}
use Rattle.std.specs.List.{AllByRecursion}
use Rattle.std.proofs.lemmas.List.Elements.{All-from_recursion}
use Rattle.cw_types.specs.Name.{IsName}
use Rattle.cw_keys.specs.declared.config_key.ConfigKey.{ConfigKey}
use Rattle.cw_keys.specs.declared.config_key.ConfigKey.TheVariants as key
use Rattle.cw_keys.specs.declared.config_value.ConfigValue.{ConfigValue}
use Rattle.cw_keys.specs.declared.config_value.ConfigValue.TheVariants as value
use Rattle.cw_keys.specs.declared.target.Target.{Target}
use Rattle.cw_keys.specs.declared.target.Target.TheVariants.{Stopped}
use Rattle.cw_config.specs.declared.records.ConfigRecord.{ConfigRecord}
use Rattle.cw_config.specs.Acceptance.{end_of}
use Rattle.cw_config.specs.View.{Properties, task_count_of}
use Rattle.cw_rest.specs.Operations.{config_values, target_values, stop_values, delete_values}
use Rattle.cw_rest.specs.Seen.{KeyedValues}
use Rattle.cw_model.specs.State.{Cluster}
use Rattle.cw_model.specs.Lookups.{row_of}
use Rattle.cw_model.specs.ConfigsAllowed.{FitsCommit, is_fence_key}
use Rattle.cw_model.specs.EventsLeading.{MayAppendConfig}
use Rattle.cw_model.specs.Updates.{stamp_of}
use Rattle.cw_laws.specs.Operations.{MayConfigure}
use Rattle.cw_laws.proofs.ConfigViews.{task_count_of-push}
use Rattle.cw_laws.proofs.Keys.{same_key-itself}
use Rattle.cw_laws.proofs.ValuesStand.{MayStand, recorded, values-allowed}
use Rattle.cw_config.proofs.Pushed.{end_of-push}

-- values that may stand anywhere may be written
may-write : (s : Cluster) (leader : ℕ) (values : KeyedValues) → IsSome (row_of leader s).lead → 0 < length values → length values < 2 ^ 32 → AllByRecursion MayStand values →
    AllByRecursion (λ (r : ConfigKey × Option ConfigValue). is_fence_key r.0 ≡ false) values → MayAppendConfig leader values s
may-write s leader values leads some few stand no_fence = record {
  leads = leads;
  some = some;
  few = few;
  allowed = values-allowed (stamp_of s) s.configs (end_of s.configs) values (omega arith) stand;
  no_fence = All-from_recursion (λ (r : ConfigKey × Option ConfigValue). is_fence_key r.0 ≡ false) values no_fence;
}

-- no tasks may be committed anywhere
no-tasks : (name : List ℕ) (before : List ConfigRecord) → FitsCommit before name 0
no-tasks name before = record { tasks = refl; apart = λ i j first below. absurd (omega arith); stopped = λ stops. refl }

none-committed : (name : List ℕ) → IsName name → MayStand (key.Commit name, Some (value.Commit 0))
none-committed name named = record { key = named; kind = refl; value = (omega arith, tt); fits = no-tasks name }

pub config-may : (s : Cluster) (leader : ℕ) (name : List ℕ) (props : Properties) → IsSome (row_of leader s).lead → MayConfigure name props →
    MayAppendConfig leader (config_values name props) s
config-may s leader name props leads may = may-write s leader (config_values name props) leads (omega arith) (omega arith)
    (record { key = may.named; kind = refl; value = (tt, (may.rising, may.texts)); fits = λ before. may.faultless }, tt) (refl, tt)

pub target-may : (s : Cluster) (leader : ℕ) (name : List ℕ) (target : Target) → IsSome (row_of leader s).lead → IsName name → target ≢ Stopped →
    MayAppendConfig leader (target_values name target) s
target-may s leader name target leads named runs = may-write s leader (target_values name target) leads (omega arith) (omega arith)
    (record { key = named; kind = refl; value = (tt, tt); fits = λ before stops. absurd (runs stops) }, tt) (refl, tt)

pub delete-may : (s : Cluster) (leader : ℕ) (name : List ℕ) → IsSome (row_of leader s).lead → IsName name → MayAppendConfig leader (delete_values name) s
delete-may s leader name leads named = may-write s leader (delete_values name) leads (omega arith) (omega arith)
    (none-committed name named, (record { key = named; kind = refl; value = tt; fits = λ before. tt }, (record { key = named; kind = refl; value = tt; fits = λ before. tt }, tt)))
    (refl, (refl, (refl, tt)))

-- a connector that is stopped has no task by then
pub stop-may : (s : Cluster) (leader : ℕ) (name : List ℕ) → IsSome (row_of leader s).lead → IsName name → MayAppendConfig leader (stop_values name) s
stop-may s leader name leads named =
    let commit : ConfigRecord = recorded (stamp_of s) (end_of s.configs, (key.Commit name, Some (value.Commit 0))) in
    let commits : task_count_of name (s.configs ++ commit ∷ []) ≡ 0 =
    task_count_of-push name s.configs commit ∙ ap (λ b. cond b 0 (task_count_of name s.configs)) (same_key-itself (key.Commit name)) in
    record {
      leads = leads;
      some = omega arith;
      few = omega arith;
      allowed = (
        record { rising = omega arith; key = named; kind = refl; value = (omega arith, tt); fits = no-tasks name s.configs },
        (record { rising = omega (arith, end_of-push s.configs commit); key = named; kind = refl; value = (tt, tt); fits = λ stops. commits }, tt),
      );
      no_fence = All-from_recursion (λ (r : ConfigKey × Option ConfigValue). is_fence_key r.0 ≡ false) (stop_values name) (refl, (refl, tt));
    }
