-- What the tables say is what the records say.
use Rattle.std.proofs.Common.{◌≡◌, ℕ, Bool, true, false, ◌&&◌, not, cond, List, [], ◌∷◌, Option, None, Some, refl, ap, sym, ◌∙◌}
use Rattle.std.specs.Option.{option_and_then, option_map, is_some, unwrap_or}
use Rattle.std.specs.List.{list_all, range_with_len}
use Rattle.cw_types.specs.declared.ids.TaskId.{TaskId}
use Rattle.cw_keys.specs.declared.target.Target.TheVariants.{Started}
use Rattle.cw_keys.specs.declared.config_key.ConfigKey.TheVariants.{Connector, Task, Commit, Target, Fencing}
use Rattle.cw_config.specs.declared.records.ConfigRecord.{ConfigRecord}
use Rattle.cw_config.specs.declared.tables.Stored.{Stored}
use Rattle.cw_config.specs.declared.tables.Tables.{Tables}
use Rattle.cw_config.specs.Records.{has_key, last_of, value_of}
use Rattle.cw_config.specs.View.{properties_in, count_in, target_in, config_of, target_of, generation_of, task_count_of, fenced_count_of, committed_record, deferred_record, task_of, deferred_of, is_behind, is_fenced, is_pending}
use Rattle.cw_config.specs.Acceptance.{has_tasks}
use Rattle.cw_config.specs.Tables.{Keeps, stored_of, stored_in, value_in, offset_in, is_later, if_later, named_at, task_at, generation_at, committed_in, deferred_in, have_tasks}
use Rattle.cw_config.proofs.Rising.{if_behind, last_behind}
use Rattle.cw_config.proofs.Pushed.{offset_in-stored}

value_in-stored : (o : Option ConfigRecord) → value_in (stored_in o) ≡ value_of o
value_in-stored None = refl
value_in-stored (Some r) = refl

value_kept : (row : Option Stored) (o : Option ConfigRecord) → row ≡ stored_in o → value_in row ≡ value_of o
value_kept row o is = ap value_in is ∙ value_in-stored o

is_later-stored : (generation : Option ℕ) (r : ConfigRecord) → is_later generation (stored_of r) ≡ is_behind generation r
is_later-stored None r = refl
is_later-stored (Some n) r = refl

stored_in-chosen : (b : Bool) (r : ConfigRecord) → cond b (Some (stored_of r)) None ≡ stored_in (cond b (Some r) None)
stored_in-chosen true r = refl
stored_in-chosen false r = refl

if_later-stored : (generation : Option ℕ) (o : Option ConfigRecord) → if_later generation (stored_in o) ≡ stored_in (if_behind generation o)
if_later-stored generation None = refl
if_later-stored generation (Some r) = ap (λ (b : Bool). cond b (Some (stored_of r)) None) (is_later-stored generation r) ∙ stored_in-chosen (is_behind generation r) r

is_some-stored : (o : Option ConfigRecord) → is_some (stored_in o) ≡ is_some o
is_some-stored None = refl
is_some-stored (Some r) = refl

is_some-offset : (o : Option ConfigRecord) → is_some (option_map (λ r. r.offset) o) ≡ is_some o
is_some-offset None = refl
is_some-offset (Some r) = refl

list_all-same : (p q : ℕ → Bool) → ((n : ℕ) → p n ≡ q n) → (xs : List ℕ) → list_all p xs ≡ list_all q xs
list_all-same p q same [] = refl
list_all-same p q same (x ∷ xs) = ap (λ (b : Bool). b && list_all p xs) (same x) ∙ ap (λ (b : Bool). q x && b) (list_all-same p q same xs)

module _ (tables : Tables) (records : List ConfigRecord) (kept : Keeps tables records) where
  pub generation_kept : (name : List ℕ) → generation_at tables name ≡ generation_of name records
  generation_kept name = ap offset_in (kept.commits name) ∙ offset_in-stored (last_of (Commit name) records)

  pub config_kept : (name : List ℕ) → option_and_then properties_in (value_in (named_at tables.connectors name)) ≡ config_of name records
  config_kept name = ap (option_and_then properties_in) (value_kept (named_at tables.connectors name) (last_of (Connector name) records) (kept.connectors name))

  pub target_kept : (name : List ℕ) → unwrap_or (option_and_then target_in (value_in (named_at tables.targets name))) Started ≡ target_of name records
  target_kept name = ap (λ v. unwrap_or (option_and_then target_in v) Started) (value_kept (named_at tables.targets name) (last_of (Target name) records) (kept.targets name))

  pub count_kept : (name : List ℕ) → unwrap_or (option_and_then count_in (value_in (named_at tables.commits name))) 0 ≡ task_count_of name records
  count_kept name = ap (λ v. unwrap_or (option_and_then count_in v) 0) (value_kept (named_at tables.commits name) (last_of (Commit name) records) (kept.commits name))

  pub fenced_count_kept : (name : List ℕ) → unwrap_or (option_and_then count_in (value_in (named_at tables.fences name))) 0 ≡ fenced_count_of name records
  fenced_count_kept name = ap (λ v. unwrap_or (option_and_then count_in v) 0) (value_kept (named_at tables.fences name) (last_of (Fencing name) records) (kept.fences name))

  pub committed_kept : (id : TaskId) → committed_in (generation_at tables id.connector) (task_at tables.tasks id) ≡ stored_in (committed_record id records)
  committed_kept id = ap (λ (g : Option ℕ). committed_in g (task_at tables.tasks id)) (generation_kept id.connector) ∙ (kept.tasks id).committed

  pub task_kept : (id : TaskId) → option_and_then properties_in (value_in (committed_in (generation_at tables id.connector) (task_at tables.tasks id)))
      ≡ option_and_then properties_in (value_of (committed_record id records))
  task_kept id = ap (option_and_then properties_in) (value_kept (committed_in (generation_at tables id.connector) (task_at tables.tasks id)) (committed_record id records) (committed_kept id))

  pub waits_kept : (id : TaskId) → deferred_in (generation_at tables id.connector) (task_at tables.tasks id) ≡ stored_in (deferred_record id records)
  waits_kept id =
      ap (λ (g : Option ℕ). deferred_in g (task_at tables.tasks id)) (generation_kept id.connector)
      ∙ ap (if_later (generation_of id.connector records)) ((kept.tasks id).last)
      ∙ if_later-stored (generation_of id.connector records) (last_of (Task id) records)
      ∙ ap stored_in (sym (last_behind (has_key (Task id)) (generation_of id.connector records) 0 records kept.rises))

  pub deferred_kept : (id : TaskId) → option_and_then properties_in (value_in (deferred_in (generation_at tables id.connector) (task_at tables.tasks id))) ≡ deferred_of id records
  deferred_kept id = ap (option_and_then properties_in) (value_kept (deferred_in (generation_at tables id.connector) (task_at tables.tasks id)) (deferred_record id records) (waits_kept id))

  pub fenced_kept : (name : List ℕ) → is_some (if_later (generation_at tables name) (named_at tables.fences name)) ≡ is_fenced name records
  fenced_kept name =
      ap (λ (g : Option ℕ). is_some (if_later g (named_at tables.fences name))) (generation_kept name)
      ∙ ap (λ (o : Option Stored). is_some (if_later (generation_of name records) o)) (kept.fences name)
      ∙ ap is_some (if_later-stored (generation_of name records) (last_of (Fencing name) records))
      ∙ is_some-stored (if_behind (generation_of name records) (last_of (Fencing name) records))
      ∙ ap is_some (sym (last_behind (has_key (Fencing name)) (generation_of name records) 0 records kept.rises))

  pub pending_kept : (name : List ℕ) → (is_some (generation_at tables name) && not (is_some (if_later (generation_at tables name) (named_at tables.fences name)))) ≡ is_pending name records
  pending_kept name =
      ap (λ (g : Option ℕ). is_some g && not (is_some (if_later (generation_at tables name) (named_at tables.fences name)))) (generation_kept name)
      ∙ ap (λ (b : Bool). is_some (generation_of name records) && not b) (fenced_kept name)

  pub have_kept : (name : List ℕ) (count : ℕ) → have_tasks tables name count ≡ has_tasks name count records
  have_kept name count =
      list_all-same (λ index. is_some (deferred_in (generation_at tables name) (task_at tables.tasks (record { connector = name; index = index }))))
      (λ index. is_some (deferred_record (record { connector = name; index = index }) records))
      (λ index. ap is_some (waits_kept (record { connector = name; index = index })) ∙ is_some-stored (deferred_record (record { connector = name; index = index }) records))
      (range_with_len 0 count)
