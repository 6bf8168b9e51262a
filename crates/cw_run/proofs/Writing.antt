-- What a call that would succeed writes to the config log may be written there.
use Rattle.std.proofs.Common.{◌≡◌, ℕ, ◌+◌, ◌∷◌, ◌++◌, [], true, false, not, List, Option, Some, None, IsSome, refl, ◌∙◌, arith}
use Rattle.std.specs.List.{AllByRecursion}
use Rattle.std.specs.Option.{option_map_or}
use Rattle.std.proofs.lemmas.List.Elements.{All-from_recursion}
use Rattle.cw_types.specs.Name.{IsName}
use Rattle.cw_keys.specs.declared.target.Target.{Target}
use Rattle.cw_keys.specs.declared.target.Target.TheVariants.{Started, Paused, Stopped}
use Rattle.cw_keys.specs.declared.config_key.ConfigKey.{ConfigKey}
use Rattle.cw_keys.specs.declared.config_key.ConfigKey.TheVariants as key
use Rattle.cw_keys.specs.declared.config_value.ConfigValue.{ConfigValue}
use Rattle.cw_keys.specs.declared.config_value.ConfigValue.TheVariants as value
use Rattle.cw_keys.specs.Configs.{IsConfigValue}
use Rattle.cw_config.specs.declared.records.ConfigRecord.{ConfigRecord}
use Rattle.cw_config.specs.Acceptance.{end_of}
use Rattle.cw_config.specs.Records.{same_key}
use Rattle.cw_config.specs.View.{Properties, task_count_of}
use Rattle.cw_plugin.specs.declared.fault.PluginFault.TheVariants as plugin
use Rattle.cw_plugin.specs.Tasks.{IsFaultless}
use Rattle.cw_plugin.specs.Checks.{checked, is_name, is_among}
use Rattle.cw_route.specs.declared.call.Call.{Call}
use Rattle.cw_route.specs.declared.call.Call.TheVariants.{Refused, Connectors, Create, Info, Delete, Config, PutConfig, Status, Tasks, TaskStatus, Pause, Resume, Stop, Restart, RestartTask, Offsets, Alter, Reset, Plugins}
use Rattle.cw_rest.specs.Bodies.{Asked, asked_in, config_in}
use Rattle.cw_rest.specs.Calls.{writes_configs, deed_of}
use Rattle.cw_rest.specs.Seen.{Seen, is_connector}
use Rattle.cw_rest.specs.Messages.{bad_name, already_there}
use Rattle.cw_rest.specs.Operations.{config_values, target_values, stop_values, delete_values}
use Rattle.cw_rest.specs.Replies.{unless_bad, if_taken, written, create_reply, put_reply, reply_to, values_of}
use Rattle.cw_model.specs.State.{Cluster}
use Rattle.cw_model.specs.Lookups.{row_of}
use Rattle.cw_model.specs.ConfigsAllowed.{IsAllowedConfig, is_fence_key}
use Rattle.cw_model.specs.EventsLeading.{MayAppendConfig}
use Rattle.cw_model.specs.Journal.{is_success}
use Rattle.cw_model.specs.Updates.{stamp_of}
use Rattle.cw_laws.proofs.Keys.{same_key-itself}
use Rattle.cw_laws.proofs.ConfigViews.{task_count_of-push}
use Rattle.cw_route.specs.HeldNames.{HoldsName}
use Rattle.cw_run.proofs.Faultless.{taken-faultless}
use Rattle.cw_config.proofs.Pushed.{end_of-push}
use Rattle.cw_laws.proofs.CallValues.{unless-done, taken-done, name-passes}

-- ---- replies

-- ---- what is written

module _ (leader : ℕ) (s : Cluster) (leads : IsSome (row_of leader s).lead) where
  abbrev at : ℕ → ConfigKey → Option ConfigValue → ConfigRecord
  at offset k v = record { offset = offset; stamp = stamp_of s; key = k; value = v }

  -- a connector's config
  pub config-may : (name : List ℕ) (props : Properties) → IsName name → IsConfigValue (Some (value.Connector props)) → IsFaultless props → MayAppendConfig leader (config_values name props) s
  config-may name props named writable faultless = record {
    leads = leads;
    some = omega arith;
    few = omega arith;
    allowed = (record { rising = omega arith; key = named; kind = refl; value = writable; fits = faultless }, tt);
    no_fence = All-from_recursion (λ (r : ConfigKey × Option ConfigValue). is_fence_key r.0 ≡ false) (config_values name props) (refl, tt);
  }

  -- a target state of a connector that goes on
  pub target-may : (name : List ℕ) (target : Target) → IsName name → (target ≡ Stopped → ⊥) → MayAppendConfig leader (target_values name target) s
  target-may name target named goes = record {
    leads = leads;
    some = omega arith;
    few = omega arith;
    allowed = (record { rising = omega arith; key = named; kind = refl; value = (tt, tt); fits = λ stops. absurd (goes stops) }, tt);
    no_fence = All-from_recursion (λ (r : ConfigKey × Option ConfigValue). is_fence_key r.0 ≡ false) (target_values name target) (refl, tt);
  }

  -- that a connector has no tasks
  no-tasks : (name : List ℕ) → IsName name → IsAllowedConfig s.configs (at (end_of s.configs) (key.Commit name) (Some (value.Commit 0)))
  no-tasks name named = record {
    rising = omega arith;
    key = named;
    kind = refl;
    value = (omega arith, tt);
    fits = record { tasks = refl; apart = λ i j first below. absurd (omega arith); stopped = λ stops. refl };
  }

  none-left : (name : List ℕ) → task_count_of name (s.configs ++ at (end_of s.configs) (key.Commit name) (Some (value.Commit 0)) ∷ []) ≡ 0
  none-left name =
      let itself : same_key (key.Commit name) (key.Commit name) ≡ true = same_key-itself (key.Commit name) in
      task_count_of-push name s.configs (at (end_of s.configs) (key.Commit name) (Some (value.Commit 0))) ∙ rw itself refl

  -- a connector is stopped
  pub stop-may : (name : List ℕ) → IsName name → MayAppendConfig leader (stop_values name) s
  stop-may name named =
      let first : ConfigRecord = at (end_of s.configs) (key.Commit name) (Some (value.Commit 0)) in
      record {
        leads = leads;
        some = omega arith;
        few = omega arith;
        allowed = (
          no-tasks name named,
          (record { rising = omega (arith, end_of-push s.configs first); key = named; kind = refl; value = (tt, tt); fits = λ stops. none-left name }, tt),
        );
        no_fence = All-from_recursion (λ (r : ConfigKey × Option ConfigValue). is_fence_key r.0 ≡ false) (stop_values name) (refl, (refl, tt));
      }

  -- a connector is removed
  pub delete-may : (name : List ℕ) → IsName name → MayAppendConfig leader (delete_values name) s
  delete-may name named =
      let first : ConfigRecord = at (end_of s.configs) (key.Commit name) (Some (value.Commit 0)) in
      let second : ConfigRecord = at (end_of s.configs + 1) (key.Target name) None in
      record {
        leads = leads;
        some = omega arith;
        few = omega arith;
        allowed = (
          no-tasks name named,
          (
            record { rising = omega (arith, end_of-push s.configs first); key = named; kind = refl; value = tt; fits = tt },
            (
              record {
                rising = omega (arith, end_of-push s.configs first, end_of-push (s.configs ++ first ∷ []) second);
                key = named;
                kind = refl;
                value = tt;
                fits = tt;
              },
              tt,
            ),
          ),
        );
        no_fence = All-from_recursion (λ (r : ConfigKey × Option ConfigValue). is_fence_key r.0 ≡ false) (delete_values name) (refl, (refl, (refl, tt)));
      }

-- ---- a call that would succeed

-- the values that a call writes can be written
abbrev pub CanBeWritten : Call → Type 0
CanBeWritten call = AllByRecursion (λ (kv : ConfigKey × Option ConfigValue). IsConfigValue kv.1) (values_of call)

module _ (leader : ℕ) (s : Cluster) (leads : IsSome (row_of leader s).lead) (seen : Seen) (feeds : AllByRecursion IsName seen.feeds) where
  create-may : (body : List ℕ) (o : Option Asked) → asked_in body ≡ o → AllByRecursion (λ (kv : ConfigKey × Option ConfigValue). IsConfigValue kv.1) (option_map_or (λ asked. config_values asked.name asked.config) o []) →
      is_success (unless_bad o (create_reply true seen)) ≡ true → MayAppendConfig leader (option_map_or (λ asked. config_values asked.name asked.config) o []) s
  create-may body None none fit succeeds = absurd (let never : false ≡ true = succeeds in cc)
  create-may body (Some asked) is fit succeeds =
      let one = unless-done (is_name asked.name) bad_name _ refl succeeds in
      let two = unless-done (not (is_connector asked.name seen)) (already_there asked.name) (if_taken asked.config seen (written 201 asked.name (config_values asked.name asked.config) seen)) refl one.1 in
      let taken = taken-done (checked (is_among seen.feeds) asked.config) _ two.1 in
      config-may leader s leads asked.name asked.config (name-passes asked.name one.0) fit.0 (taken-faultless seen.feeds feeds asked.config taken.0 taken.1)

  put-may : (name : List ℕ) → IsName name → (o : Option Properties) → AllByRecursion (λ (kv : ConfigKey × Option ConfigValue). IsConfigValue kv.1) (option_map_or (config_values name) o []) →
      is_success (unless_bad o (put_reply true seen name)) ≡ true → MayAppendConfig leader (option_map_or (config_values name) o []) s
  put-may name named None fit succeeds = absurd (let never : false ≡ true = succeeds in cc)
  put-may name named (Some props) fit succeeds =
      let taken = taken-done (checked (is_among seen.feeds) props) _ succeeds in
      config-may leader s leads name props named fit.0 (taken-faultless seen.feeds feeds props taken.0 taken.1)

  pub values-may : (call : Call) → deed_of call ≡ writes_configs → HoldsName call → CanBeWritten call → is_success (reply_to true seen call) ≡ true → MayAppendConfig leader (values_of call) s
  values-may (Create body) writes named fit succeeds = create-may body (asked_in body) refl fit succeeds
  values-may (PutConfig name body) writes named fit succeeds = put-may name named (config_in name body) fit succeeds
  values-may (Delete name) writes named fit succeeds = delete-may leader s leads name named
  values-may (Pause name) writes named fit succeeds = target-may leader s leads name Paused named (λ same. cc)
  values-may (Resume name) writes named fit succeeds = target-may leader s leads name Started named (λ same. cc)
  values-may (Stop name) writes named fit succeeds = stop-may leader s leads name named
  values-may (Refused fault) writes named fit succeeds = absurd (cc)
  values-may Connectors writes named fit succeeds = absurd (cc)
  values-may (Info name) writes named fit succeeds = absurd (cc)
  values-may (Config name) writes named fit succeeds = absurd (cc)
  values-may (Status name) writes named fit succeeds = absurd (cc)
  values-may (Tasks name) writes named fit succeeds = absurd (cc)
  values-may (TaskStatus id) writes named fit succeeds = absurd (cc)
  values-may (Restart name) writes named fit succeeds = absurd (cc)
  values-may (RestartTask id) writes named fit succeeds = absurd (cc)
  values-may (Offsets name) writes named fit succeeds = absurd (cc)
  values-may (Alter name body) writes named fit succeeds = absurd (cc)
  values-may (Reset name) writes named fit succeeds = absurd (cc)
  values-may Plugins writes named fit succeeds = absurd (cc)
