-- Lists of records that no look-up can tell apart, and that stay so behind further records.
use Rattle.std.proofs.Common.{◌≡◌, ℕ, ◌+◌, ◌≤◌, Bool, ◌&&◌, not, cond, max, List, [], ◌∷◌, ◌++◌, Option, None, Some, refl, ap, sym, subst, ◌∙◌, append_assoc, arith}
use Rattle.std.proofs.lemmas.List.{append-nil}
use Rattle.std.specs.Option.{option_map, option_and_then, is_some, unwrap_or}
use Rattle.std.specs.Prelude.{nat_lt}
use Rattle.cw_types.specs.declared.ids.TaskId.{TaskId}
use Rattle.cw_keys.specs.declared.target.Target.TheVariants.{Started}
use Rattle.cw_keys.specs.declared.config_key.ConfigKey.{ConfigKey}
use Rattle.cw_keys.specs.declared.config_key.ConfigKey.TheVariants.{Connector, Task, Commit, Target, Fencing}
use Rattle.cw_config.specs.declared.records.ConfigRecord.{ConfigRecord}
use Rattle.cw_config.specs.Records.{has_key, last_of, value_of}
use Rattle.cw_config.specs.View.{properties_in, count_in, target_in, config_of, generation_of, task_count_of, committed_record, deferred_record, is_fenced}
use Rattle.cw_config.specs.Acceptance.{end_of}
use Rattle.cw_config.specs.Compaction.{AreAccepted, SaysTheSame}
use Rattle.cw_config.specs.Tables.{RisesFrom}
use Rattle.cw_config.proofs.Rising.{last_where-push, rises-push, if_behind, last_behind}
use Rattle.cw_config.proofs.Pushed.{committed-push, end_of-push, above_all}

pub record Alike (a b : List ConfigRecord) : Type 0 where
  pub rises : RisesFrom 0 a
  pub rises_too : RisesFrom 0 b
  pub end : end_of a ≡ end_of b
  pub last : (key : ConfigKey) → last_of key a ≡ last_of key b
  pub committed : (id : TaskId) → committed_record id a ≡ committed_record id b

alike-push : (a b : List ConfigRecord) (r : ConfigRecord) → Alike a b → end_of b ≤ r.offset → Alike (a ++ r ∷ []) (b ++ r ∷ [])
alike-push a b r alike above =
    let above_a : end_of a ≤ r.offset = subst (λ (e : ℕ). e ≤ r.offset) (sym alike.end) above in
    record {
      rises = rises-push 0 a r alike.rises above_a;
      rises_too = rises-push 0 b r alike.rises_too above;
      end = end_of-push a r ∙ ap (λ (e : ℕ). max e (r.offset + 1)) alike.end ∙ sym (end_of-push b r);
      last = λ key.
          last_where-push (has_key key) a r ∙ ap (λ (o : Option ConfigRecord). cond (has_key key r) (Some r) o) (alike.last key) ∙ sym (last_where-push (has_key key) b r);
      committed = λ id.
          committed-push id a r alike.rises above_a
          ∙ ap (λ (o : Option ConfigRecord). cond (has_key (Commit id.connector) r) o (committed_record id a)) (alike.last (Task id))
          ∙ ap (λ (o : Option ConfigRecord). cond (has_key (Commit id.connector) r) (last_of (Task id) b) o) (alike.committed id)
          ∙ sym (committed-push id b r alike.rises_too above);
    }

pub alike-append : (a b more : List ConfigRecord) → Alike a b → AreAccepted b more → Alike (a ++ more) (b ++ more)
alike-append a b [] alike accepted =
    subst (λ (l : List ConfigRecord). Alike l (b ++ [])) (sym (append-nil a)) (subst (λ (l : List ConfigRecord). Alike a l) (sym (append-nil b)) alike)
alike-append a b (r ∷ more) alike accepted =
    subst (λ (l : List ConfigRecord). Alike l (b ++ r ∷ more)) (append_assoc a (r ∷ []) more)
    (subst (λ (l : List ConfigRecord). Alike ((a ++ r ∷ []) ++ more) l) (append_assoc b (r ∷ []) more)
    (alike-append (a ++ r ∷ []) (b ++ r ∷ []) more (alike-push a b r alike (above_all b r accepted.0)) accepted.1))

module _ (a b : List ConfigRecord) (alike : Alike a b) where
  same_generation : (name : List ℕ) → generation_of name a ≡ generation_of name b
  same_generation name = ap (λ (o : Option ConfigRecord). option_map (λ r. r.offset) o) (alike.last (Commit name))

  same_count : (name : List ℕ) → task_count_of name a ≡ task_count_of name b
  same_count name = ap (λ (o : Option ConfigRecord). unwrap_or (option_and_then count_in (value_of o)) 0) (alike.last (Commit name))

  -- the last record of a key behind a generation
  same_behind : (key : ConfigKey) (name : List ℕ) → if_behind (generation_of name a) (last_of key a) ≡ if_behind (generation_of name b) (last_of key b)
  same_behind key name =
      ap (λ (g : Option ℕ). if_behind g (last_of key a)) (same_generation name) ∙ ap (if_behind (generation_of name b)) (alike.last key)

  same_deferred : (id : TaskId) → deferred_record id a ≡ deferred_record id b
  same_deferred id =
      last_behind (has_key (Task id)) (generation_of id.connector a) 0 a alike.rises
      ∙ same_behind (Task id) id.connector
      ∙ sym (last_behind (has_key (Task id)) (generation_of id.connector b) 0 b alike.rises_too)

  same_fenced : (name : List ℕ) → is_fenced name a ≡ is_fenced name b
  same_fenced name =
      ap is_some
      (last_behind (has_key (Fencing name)) (generation_of name a) 0 a alike.rises
      ∙ same_behind (Fencing name) name
      ∙ sym (last_behind (has_key (Fencing name)) (generation_of name b) 0 b alike.rises_too))

  pub says_the_same : SaysTheSame a b
  says_the_same = record {
    end = alike.end;
    config = λ name. ap (λ (o : Option ConfigRecord). option_and_then properties_in (value_of o)) (alike.last (Connector name));
    target = λ name. ap (λ (o : Option ConfigRecord). unwrap_or (option_and_then target_in (value_of o)) Started) (alike.last (Target name));
    generation = same_generation;
    task_count = same_count;
    fenced_count = λ name. ap (λ (o : Option ConfigRecord). unwrap_or (option_and_then count_in (value_of o)) 0) (alike.last (Fencing name));
    task = λ id.
        ap (λ (n : ℕ). cond (nat_lt id.index n) (option_and_then properties_in (value_of (committed_record id a))) None) (same_count id.connector)
        ∙ ap (λ (o : Option ConfigRecord). cond (nat_lt id.index (task_count_of id.connector b)) (option_and_then properties_in (value_of o)) None) (alike.committed id);
    deferred = λ id. ap (λ (o : Option ConfigRecord). option_and_then properties_in (value_of o)) (same_deferred id);
    pending = λ name.
        ap (λ (g : Option ℕ). is_some g && not (is_fenced name a)) (same_generation name)
        ∙ ap (λ (f : Bool). is_some (generation_of name b) && not f) (same_fenced name);
  }
