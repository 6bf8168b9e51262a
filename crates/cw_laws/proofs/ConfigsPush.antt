-- The facts of the config log behind further records: what stands says what the whole list says, each record is
-- allowed, and each fence stands for what it stood for.
use Rattle.std.proofs.Common.{◌≡◌, ◌⊎◌, inl, inr, ℕ, ◌+◌, ◌≤◌, ◌<◌, Bool, true, false, nat_lt, cond, max, List, [], ◌∷◌, ◌++◌, Option, Some, None, IsSome, unwrap_or, refl, sym, subst, ap, ◌∙◌, arith, append_assoc}
use Rattle.std.proofs.lemmas.Bool.{cases_Bool}
use Rattle.std.specs.List.{AllByRecursion, Contains}
use Rattle.std.proofs.lemmas.List.{append-nil}
use Rattle.std.proofs.lemmas.List.Elements.{Contains-append_left, Contains-push}
use Rattle.std.proofs.lemmas.Bool.Decides.{nat_tests}
use Rattle.cw_types.specs.declared.ids.TaskId.{TaskId}
use Rattle.cw_keys.specs.declared.config_key.ConfigKey.{ConfigKey}
use Rattle.cw_keys.specs.declared.config_key.ConfigKey.TheVariants as key
use Rattle.cw_keys.specs.declared.config_value.ConfigValue.{ConfigValue}
use Rattle.cw_keys.specs.declared.config_value.ConfigValue.TheVariants as value
use Rattle.cw_config.specs.declared.records.ConfigRecord.{ConfigRecord}
use Rattle.cw_config.specs.Records.{has_key}
use Rattle.cw_config.specs.View.{Properties, config_of, target_of, generation_of, task_count_of, fenced_count_of, task_of}
use Rattle.cw_config.proofs.Pushed.{end_of-push}
use Rattle.cw_plugin.specs.Tasks.{parts_at, ShareNone}
use Rattle.cw_txn.specs.declared.entry.Entry.{Entry}
use Rattle.cw_config.specs.Compaction.{SaysTheSame}
use Rattle.cw_model.specs.Lookups.{list_end}
use Rattle.cw_model.specs.ConfigsAllowed.{IsAllowedConfig, AreAllowedConfigs, FitsBehind, waiting_parts}
use Rattle.cw_model.specs.FactsLogs.{ConfigFacts}
use Rattle.cw_laws.proofs.Lists.{each-push, each-weaker}
use Rattle.cw_laws.proofs.ConfigViews.{properties_at, count_at, target_at, config_of-push, target_of-push, generation_of-push, task_count_of-push, fenced_count_of-push, deferred_of-push, is_pending-push, task_of-push, task_of-none}
use Rattle.cw_laws.proofs.Allowed.{each_from-append, allowed-rises}
use Rattle.cw_laws.proofs.AllowedTasks.{task_at, committed-config, has_tasks-alike}
use Rattle.cw_laws.proofs.Newest.{standing-push, standing-append, standing-last}

-- ---- what is allowed behind one list is allowed behind one that says the same

fits-same : (xs ys : List ConfigRecord) → AreAllowedConfigs [] xs → AreAllowedConfigs [] ys → SaysTheSame xs ys →
    (k : ConfigKey) (v : Option ConfigValue) → FitsBehind ys k v → FitsBehind xs k v
fits-same xs ys a b same (key.Commit name) (Some (value.Commit count)) f = record {
  tasks = has_tasks-alike name count xs ys a b same.deferred ∙ f.tasks;
  apart = λ i j first below.
      subst (λ (o : Option Properties). ShareNone (parts_at name (unwrap_or o [])) (waiting_parts xs name j))
      (sym (same.deferred (task_at name i)))
      (subst (λ (o : Option Properties). ShareNone (waiting_parts ys name i) (parts_at name (unwrap_or o [])))
      (sym (same.deferred (task_at name j))) (f.apart i j first below));
  stopped = λ stops. f.stopped (sym (same.target name) ∙ stops);
}
fits-same xs ys a b same (key.Target name) (Some (value.Target target)) f = λ stops. same.task_count name ∙ f stops
fits-same xs ys a b same (key.Fencing name) (Some (value.Fencing count)) f =
    λ some. f (subst (λ (o : Option ℕ). IsSome o) (same.generation name) some) ∙ sym (same.task_count name)
fits-same xs ys a b same k v f = f

pub allowed-same : (xs ys : List ConfigRecord) (r : ConfigRecord) → AreAllowedConfigs [] xs → AreAllowedConfigs [] ys →
    SaysTheSame xs ys → IsAllowedConfig ys r → IsAllowedConfig xs r
allowed-same xs ys r a b same f = record {
  rising = subst (λ (n : ℕ). n ≤ r.offset) (sym same.end) f.rising;
  key = f.key;
  kind = f.kind;
  value = f.value;
  fits = fits-same xs ys a b same r.key r.value f.fits;
}

-- ---- lists that say the same say it behind one record more

between : {A : Type 0} (b : Bool) (v x y : A) → x ≡ y → cond b v x ≡ cond b v y
between {A = A} b v x y same = ap (λ (z : A). cond b v z) same

below-cases : (a b : ℕ) → (a < b) ⊎ (b ≤ a)
below-cases a b = by (nat_lt a b) refl where
  by : (t : Bool) → nat_lt a b ≡ t → (a < b) ⊎ (b ≤ a)
  by true is = inl (grind (arith, nat_tests))
  by false is = inr (grind (arith, nat_tests))

module _ (xs ys : List ConfigRecord) (r : ConfigRecord) (a : AreAllowedConfigs [] xs) (b : AreAllowedConfigs [] ys)
    (same : SaysTheSame xs ys) (fits : IsAllowedConfig ys r) where
  fits_too : IsAllowedConfig xs r
  fits_too = allowed-same xs ys r a b same fits

  same_task : (id : TaskId) → task_of id (xs ++ r ∷ []) ≡ task_of id (ys ++ r ∷ [])
  same_task id = elim (cases_Bool (has_key (key.Commit id.connector) r)) [
    | inl commits ↦ elim (below-cases id.index (count_at r)) [
      | inl below ↦ (committed-config id xs r (allowed-rises xs a) fits_too commits below).1 ∙ same.deferred id
          ∙ sym (committed-config id ys r (allowed-rises ys b) fits commits below).1
      | inr not_below ↦ none xs (not_below) commits ∙ sym (none ys not_below commits)
    ]
    | inr other ↦ task_of-push id xs r (allowed-rises xs a) fits_too.rising other ∙ same.task id
        ∙ sym (task_of-push id ys r (allowed-rises ys b) fits.rising other)
  ] where
    none : (zs : List ConfigRecord) → count_at r ≤ id.index → has_key (key.Commit id.connector) r ≡ true →
        task_of id (zs ++ r ∷ []) ≡ None
    none zs not_below commits =
        let count : task_count_of id.connector (zs ++ r ∷ []) ≡ count_at r =
        task_count_of-push id.connector zs r ∙ ap
        (λ (t : Bool). cond t (count_at r) (task_count_of id.connector zs)) commits in
        let not : nat_lt id.index (count_at r) ≡ false = grind (arith, nat_tests) in
        task_of-none id (zs ++ r ∷ []) (ap (λ (n : ℕ). nat_lt id.index n) count ∙ not)

  pub same-push : SaysTheSame (xs ++ r ∷ []) (ys ++ r ∷ [])
  same-push = record {
    end = end_of-push xs r ∙ ap (λ (n : ℕ). max n (r.offset + 1)) same.end ∙ sym (end_of-push ys r);
    config = λ name. config_of-push name xs r ∙ between (has_key (key.Connector name) r) (properties_at r)
        (config_of name xs) (config_of name ys) (same.config name) ∙ sym (config_of-push name ys r);
    target = λ name. target_of-push name xs r ∙ between (has_key (key.Target name) r) (target_at r) (target_of name xs)
        (target_of name ys) (same.target name) ∙ sym (target_of-push name ys r);
    generation = λ name. generation_of-push name xs r
        ∙ between (has_key (key.Commit name) r) (Some r.offset) (generation_of name xs) (generation_of name ys)
        (same.generation name) ∙ sym (generation_of-push name ys r);
    task_count = λ name. task_count_of-push name xs r
        ∙ between (has_key (key.Commit name) r) (count_at r) (task_count_of name xs) (task_count_of name ys)
        (same.task_count name) ∙ sym (task_count_of-push name ys r);
    fenced_count = λ name. fenced_count_of-push name xs r
        ∙ between (has_key (key.Fencing name) r) (count_at r) (fenced_count_of name xs) (fenced_count_of name ys)
        (same.fenced_count name) ∙ sym (fenced_count_of-push name ys r);
    task = same_task;
    deferred = λ id. deferred_of-push id xs r (allowed-rises xs a) fits_too.rising
        ∙ ap (λ (o : Option Properties). cond (has_key (key.Commit id.connector) r) None
        (cond (has_key (key.Task id) r) (properties_at r) o)) (same.deferred id)
        ∙ sym (deferred_of-push id ys r (allowed-rises ys b) fits.rising);
    pending = λ name. is_pending-push name xs r (allowed-rises xs a) fits_too.rising
        ∙ ap (λ (t : Bool). cond (has_key (key.Commit name) r) true (cond (has_key (key.Fencing name) r) false t))
        (same.pending name)
        ∙ sym (is_pending-push name ys r (allowed-rises ys b) fits.rising);
  }

-- ---- the facts of the config log

pub config_facts-push : (standing whole : List ConfigRecord) (entries : List Entry) (r : ConfigRecord) →
    ConfigFacts standing whole entries → IsAllowedConfig whole r → r.stamp ≤ list_end entries →
    ConfigFacts (standing ++ r ∷ []) (whole ++ r ∷ []) entries
config_facts-push standing whole entries r f fits stamp = record {
  allowed = each_from-append IsAllowedConfig [] whole (r ∷ []) f.allowed (fits, tt);
  stamped = each-push (λ (q : ConfigRecord). q.stamp ≤ list_end entries) whole r stamp f.stamped;
  same = same-push standing whole r f.standing_allowed f.allowed f.same fits;
  among = each-push (Contains (whole ++ r ∷ [])) standing r (Contains-push whole r)
      (each-weaker (Contains whole) (Contains (whole ++ r ∷ [])) standing
      (λ x c. Contains-append_left whole (r ∷ []) x c) f.among);
  standing_allowed = each_from-append IsAllowedConfig [] standing (r ∷ []) f.standing_allowed
      (allowed-same standing whole r f.standing_allowed f.allowed f.same fits, tt);
  fences = λ name generation mark stands. elim (standing-push standing r name generation mark stands) [
    | inl before ↦ standing-append whole (r ∷ []) name generation mark (f.fences name generation mark before)
    | inr last ↦ standing-last whole r name generation mark record {
      fences = last.fences;
      stamped = last.stamped;
      of_generation = sym (f.same.generation name) ∙ last.of_generation;
    }
  ];
}

-- each of these records was written when the list was no longer than it is
pub config_facts-append : (standing whole : List ConfigRecord) (entries : List Entry) (more : List ConfigRecord) →
    ConfigFacts standing whole entries → AreAllowedConfigs whole more →
    AllByRecursion (λ r. r.stamp ≤ list_end entries) more → ConfigFacts (standing ++ more) (whole ++ more) entries
config_facts-append standing whole entries [] f fits stamps =
    subst (λ (l : List ConfigRecord). ConfigFacts l (whole ++ []) entries) (sym (append-nil standing))
    (subst (λ (l : List ConfigRecord). ConfigFacts standing l entries) (sym (append-nil whole)) f)
config_facts-append standing whole entries (r ∷ more) f fits stamps =
    subst (λ (l : List ConfigRecord). ConfigFacts l (whole ++ r ∷ more) entries) (append_assoc standing (r ∷ []) more)
    (subst (λ (l : List ConfigRecord). ConfigFacts ((standing ++ r ∷ []) ++ more) l entries)
    (append_assoc whole (r ∷ []) more)
    (config_facts-append (standing ++ r ∷ []) (whole ++ r ∷ []) entries more
    (config_facts-push standing whole entries r f fits.0 stamps.0) fits.1 stamps.1))
