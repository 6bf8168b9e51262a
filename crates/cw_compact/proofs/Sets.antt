-- The sets of each connector behind one record more.
use Rattle.std.proofs.Common.{◌≡◌, ℕ, Bool, true, false, cond, List, [], ◌∷◌, ◌++◌, Option, None, Some, refl, sym, ap, ◌∙◌}
use Rattle.std.specs.Option.{option_map, option_map_or, unwrap_or}
use Rattle.std.specs.Str.{bytes_eq}
use Rattle.std.specs.BTreeMap.{BTreeMap, get, is_at, Updates}
use Rattle.std.specs.BTreeSet.{BTreeSet, contains}
use Rattle.std.proofs.lemmas.List.Sums.{fold-append}
use Rattle.std.proofs.lemmas.Map.Text.{is_eq-slice_cmp}
use Rattle.std.proofs.lemmas.Slice.Eq.{bytes_eq-Decides}
use Rattle.cw_types.specs.Order.{name_cmp}
use Rattle.cw_types.specs.declared.ids.TaskId.{TaskId}
use Rattle.cw_keys.specs.declared.config_key.ConfigKey.{ConfigKey}
use Rattle.cw_keys.specs.declared.config_key.ConfigKey.TheVariants.{Task, Commit}
use Rattle.cw_config.specs.declared.records.ConfigRecord.{ConfigRecord}
use Rattle.cw_config.specs.Records.{same_key, has_key, last_of}
use Rattle.cw_config.specs.View.{generation_of}
use Rattle.cw_config.specs.Compaction.{connector_of_task}
use Rattle.cw_config.proofs.Rising.{last_where-push}
use Rattle.cw_compact.specs.declared.clean.TaskSet.{TaskSet}
use Rattle.cw_compact.specs.Lasts.{higher}
use Rattle.cw_compact.specs.Clean.{is_task_of, highest_task, waits, no_tasks, set_of, set_at, Sets, AreSets}

-- sets of these two
abbrev pub pair : Option ℕ → Option ℕ → TaskSet
pair commit task = record { commit = commit; task = task }

-- ---- one record more

-- what a record of a key makes of the sets of a connector
abbrev moved : ConfigKey → (offset : ℕ) → List ℕ → TaskSet → TaskSet
moved key offset name was = pair
    (cond (same_key key (Commit name)) (Some offset) was.commit)
    (cond (option_map_or (λ connector. bytes_eq connector name) (connector_of_task key) false) (higher was.task offset) was.task)

mapped : (b : Bool) (r : ConfigRecord) (o : Option ConfigRecord) → option_map (λ x. x.offset) (cond b (Some r) o) ≡ cond b (Some r.offset) (option_map (λ x. x.offset) o)
mapped true r o = refl
mapped false r o = refl

commit-push : (name : List ℕ) (records : List ConfigRecord) (r : ConfigRecord)
    → generation_of name (records ++ r ∷ []) ≡ cond (has_key (Commit name) r) (Some r.offset) (generation_of name records)
commit-push name records r =
    ap (option_map (λ x. x.offset)) (last_where-push (has_key (Commit name)) records r) ∙ mapped (has_key (Commit name) r) r (last_of (Commit name) records)

task-push : (name : List ℕ) (records : List ConfigRecord) (r : ConfigRecord)
    → highest_task name (records ++ r ∷ []) ≡ cond (is_task_of name r) (higher (highest_task name records) r.offset) (highest_task name records)
task-push name records r = fold-append (λ (most : Option ℕ) (x : ConfigRecord). cond (is_task_of name x) (higher most x.offset) most) None records (r ∷ [])

set_of-push : (name : List ℕ) (records : List ConfigRecord) (r : ConfigRecord) (key : ConfigKey) → r.key ≡ key
    → set_of name (records ++ r ∷ []) ≡ moved key r.offset name (set_of name records)
set_of-push name records r key is =
    ap (λ (o : Option ℕ). pair o (highest_task name (records ++ r ∷ []))) (commit-push name records r)
    ∙ ap (λ (o : Option ℕ). pair (cond (has_key (Commit name) r) (Some r.offset) (generation_of name records)) o) (task-push name records r)
    ∙ ap (λ (k : ConfigKey). moved k r.offset name (set_of name records)) is

-- ---- a table in which a connector's sets were set

at_name : (name q : List ℕ) → is_at (name_cmp name) q ≡ bytes_eq name q
at_name name q = is_eq-slice_cmp name q

picked : {A : Type 0} (b : Bool) (x y z : A) → (b ≡ true → x ≡ z) → (b ≡ false → y ≡ z) → cond b x y ≡ z
picked true x y z one other = one refl
picked false x y z one other = other refl

module _ (old new : BTreeMap (List ℕ) TaskSet) (was now : BTreeSet (List ℕ)) (records : List ConfigRecord) (r : ConfigRecord) (key : ConfigKey) (is : r.key ≡ key)
    (before : AreSets old was records) where
  -- a record that is no task's config and no commit changes nothing
  pub same_sets : ((q : List ℕ) → moved key r.offset q (set_of q records) ≡ set_of q records) → AreSets old was (records ++ r ∷ [])
  same_sets same = record {
    sets_are = λ q. before.sets_are q ∙ sym (set_of-push q records r key is ∙ same q);
    waiting_are = λ q. before.waiting_are q ∙ ap waits (sym (set_of-push q records r key is ∙ same q));
  }

  -- one that changes the sets of one connector
  pub set_sets : (name : List ℕ) (set : TaskSet) → moved key r.offset name (set_at old name) ≡ set → ((q : List ℕ) → bytes_eq name q ≡ false → moved key r.offset q (set_of q records) ≡ set_of q records)
      → Sets name set old new → ((q : List ℕ) → contains name_cmp now q ≡ cond (is_at (name_cmp name) q) (waits set) (contains name_cmp was q))
      → AreSets new now (records ++ r ∷ [])
  set_sets name set here others sets waiting = record {
    sets_are = λ q. sets q ∙ set_is q;
    waiting_are = λ q. waiting q ∙ waits_is q;
  }
    where
      set_here : (q : List ℕ) → bytes_eq name q ≡ true → set ≡ set_of q (records ++ r ∷ [])
      set_here q one =
          sym here ∙ ap (λ (l : List ℕ). moved key r.offset l (set_at old l)) ((bytes_eq-Decides name q).0 one)
          ∙ ap (moved key r.offset q) (before.sets_are q) ∙ sym (set_of-push q records r key is)

      set_there : (q : List ℕ) → bytes_eq name q ≡ false → set_of q records ≡ set_of q (records ++ r ∷ [])
      set_there q other = sym (set_of-push q records r key is ∙ others q other)

      set_is : (q : List ℕ) → cond (is_at (name_cmp name) q) set (set_at old q) ≡ set_of q (records ++ r ∷ [])
      set_is q =
          picked (is_at (name_cmp name) q) set (set_at old q) (set_of q (records ++ r ∷ []))
          (λ e. set_here q (sym (at_name name q) ∙ e)) (λ e. before.sets_are q ∙ set_there q (sym (at_name name q) ∙ e))

      waits_is : (q : List ℕ) → cond (is_at (name_cmp name) q) (waits set) (contains name_cmp was q) ≡ waits (set_of q (records ++ r ∷ []))
      waits_is q =
          picked (is_at (name_cmp name) q) (waits set) (contains name_cmp was q) (waits (set_of q (records ++ r ∷ [])))
          (λ e. ap waits (set_here q (sym (at_name name q) ∙ e))) (λ e. before.waiting_are q ∙ ap waits (set_there q (sym (at_name name q) ∙ e)))

-- ---- by the kind of a key

itself : (name : List ℕ) → bytes_eq name name ≡ true
itself name = (bytes_eq-Decides name name).1 refl

task_here : (id : TaskId) (offset : ℕ) (was : TaskSet) → moved (Task id) offset id.connector was ≡ pair was.commit (higher was.task offset)
task_here id offset was = ap (λ (b : Bool). pair was.commit (cond b (higher was.task offset) was.task)) (itself id.connector)

task_there : (id : TaskId) (offset : ℕ) (q : List ℕ) (was : TaskSet) → bytes_eq id.connector q ≡ false → moved (Task id) offset q was ≡ was
task_there id offset q was other = ap (λ (b : Bool). pair was.commit (cond b (higher was.task offset) was.task)) other

commit_here : (name : List ℕ) (offset : ℕ) (was : TaskSet) → moved (Commit name) offset name was ≡ pair (Some offset) was.task
commit_here name offset was = ap (λ (b : Bool). pair (cond b (Some offset) was.commit) was.task) (itself name)

commit_there : (name : List ℕ) (offset : ℕ) (q : List ℕ) (was : TaskSet) → bytes_eq name q ≡ false → moved (Commit name) offset q was ≡ was
commit_there name offset q was other = ap (λ (b : Bool). pair (cond b (Some offset) was.commit) was.task) other

module _ (old new : BTreeMap (List ℕ) TaskSet) (was now : BTreeSet (List ℕ)) (records : List ConfigRecord) (r : ConfigRecord) (before : AreSets old was records) where
  pub task_put : (id : TaskId) → r.key ≡ Task id
      → Sets id.connector (pair (set_at old id.connector).commit (higher (set_at old id.connector).task r.offset)) old new
      → ((q : List ℕ) → contains name_cmp now q ≡ cond (is_at (name_cmp id.connector) q) (waits (pair (set_at old id.connector).commit (higher (set_at old id.connector).task r.offset))) (contains name_cmp was q))
      → AreSets new now (records ++ r ∷ [])
  task_put id is sets waiting =
      set_sets old new was now records r (Task id) is before id.connector (pair (set_at old id.connector).commit (higher (set_at old id.connector).task r.offset))
      (task_here id r.offset (set_at old id.connector)) (λ q other. task_there id r.offset q (set_of q records) other) sets waiting

  pub commit_put : (name : List ℕ) → r.key ≡ Commit name
      → Sets name (pair (Some r.offset) (set_at old name).task) old new
      → ((q : List ℕ) → contains name_cmp now q ≡ cond (is_at (name_cmp name) q) (waits (pair (Some r.offset) (set_at old name).task)) (contains name_cmp was q))
      → AreSets new now (records ++ r ∷ [])
  commit_put name is sets waiting =
      set_sets old new was now records r (Commit name) is before name (pair (Some r.offset) (set_at old name).task)
      (commit_here name r.offset (set_at old name)) (λ q other. commit_there name r.offset q (set_of q records) other) sets waiting

-- a table behind an insertion
unwrapped : (b : Bool) (set : TaskSet) (o : Option TaskSet) → unwrap_or (cond b (Some set) o) no_tasks ≡ cond b set (unwrap_or o no_tasks)
unwrapped true set o = refl
unwrapped false set o = refl

pub inserted : (name : List ℕ) (set : TaskSet) (old new : BTreeMap (List ℕ) TaskSet) → Updates name_cmp old new name (Some set) → Sets name set old new
inserted name set old new updates q =
    ap (λ (o : Option TaskSet). unwrap_or o no_tasks) (updates.0 q) ∙ unwrapped (is_at (name_cmp name) q) set (get name_cmp old q)
