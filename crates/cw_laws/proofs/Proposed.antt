-- What a worker that has read all proposes may be written: tasks that its connector's config asks for, and their
-- commit once they stand.
use Rattle.std.proofs.Common.{◌≡◌, ℕ, zero, suc, ◌+◌, ◌<◌, ◌≤◌, ◌^◌, ◌∷◌, [], ◌&&◌, Bool, true, false, not, List, Option, Some, None, IsSome, AllPairs, is_some, option_map, option_and_then, unwrap_or, length, map, bytes_eq, slice_index_or, if◌then◌else◌, refl, sym, subst, ap, ◌∙◌, arith}
use Rattle.std.proofs.lemmas.Bool.{and_parts, or_right}
use Rattle.std.specs.Bool.{Decides}
use Rattle.std.specs.Option.{option_eq, option_map_or}
use Rattle.std.specs.List.{AllByRecursion, find, filter_map, list_all, list_any, range_with_len, enumerate_from}
use Rattle.std.proofs.lemmas.List.Elements.{All-from_recursion, recursion_from_All}
use Rattle.std.proofs.lemmas.List.FromFn.{get_or-map-range_with_len}
use Rattle.std.proofs.lemmas.Slice.Eq.{bytes_eq-Decides, slice_eq-Decides}
use Rattle.cw_types.specs.Name.{IsName}
use Rattle.cw_keys.specs.Configs.{IsConfigValue, is_record}
use Rattle.cw_keys.specs.declared.config_key.ConfigKey.{ConfigKey}
use Rattle.cw_keys.specs.declared.config_key.ConfigKey.TheVariants as key
use Rattle.cw_keys.specs.declared.config_value.ConfigValue.{ConfigValue}
use Rattle.cw_keys.specs.declared.config_value.ConfigValue.TheVariants as value
use Rattle.cw_config.specs.declared.records.ConfigRecord.{ConfigRecord}
use Rattle.cw_config.specs.Records.{has_key, same_key, last_of, value_of}
use Rattle.cw_config.specs.View.{Properties, properties_in, config_of, target_of, deferred_of, deferred_record}
use Rattle.cw_config.specs.Acceptance.{end_of}
use Rattle.cw_plugin.specs.Parts.{task_of}
use Rattle.cw_plugin.specs.Tasks.{IsFaultless, ShareNone, parts_at, task_configs}
use Rattle.cw_plugin.proofs.LawLemmas.{each_is_task, no_part_twice}
use Rattle.cw_model.specs.ConfigsAllowed.{IsAllowedConfig, AreAllowedConfigs, FitsBehind, FitsCommit, waiting_parts, is_fence_key}
use Rattle.cw_model.specs.EventsLeading.{MayAppendConfig, leads as leads-it}
use Rattle.cw_model.specs.State.{Setting, Cluster}
use Rattle.cw_model.specs.Facts.{AreFacts}
use Rattle.cw_model.specs.Lookups.{row_of, seen, held, is_at}
use Rattle.cw_model.specs.EventsItems.{is_active}
use Rattle.cw_model.specs.FactsRows.{RowFacts, IsSoundInstance}
use Rattle.cw_model.specs.Ready.{is_stable_in, leads_round, leader_for, ready, connector_in}
use Rattle.cw_model.specs.TickRules.{Proposing, read_applies, propose_applies}
use Rattle.cw_model.specs.declared.row.RowPhase.{RowPhase}
use Rattle.cw_model.specs.declared.row.RowPhase.TheVariants.{Out, Joining, Stable}
use Rattle.cw_types.specs.declared.ids.Item.{Item}
use Rattle.cw_types.specs.declared.ids.Item.TheVariants.{Connector, Task}
use Rattle.cw_keys.specs.Statuses.{IsItem}
use Rattle.cw_assign.specs.Items.{has, same_item}
use Rattle.cw_assign.proofs.ItemLemmas.{same_item-Decides}
use Rattle.cw_model.specs.Updates.{stamp_of}
use Rattle.cw_types.specs.Task.{task_id}
use Rattle.cw_model.specs.Proposals.{proposal_of, deferred_tasks, same_property, same_properties, are_configs, needs_tasks, tasks_of, are_deferred, task_records}
use Rattle.cw_laws.proofs.Configs.{last_where-holds}
use Rattle.cw_laws.proofs.Disks.{and-first, and-second}
use Rattle.cw_laws.proofs.Held.{holds_at, held-any}
use Rattle.cw_laws.proofs.Reports.{any-holds}
use Rattle.cw_laws.proofs.TaskSteps.{found-holds}
use Rattle.cw_laws.proofs.Ticks.{ProposesWell, proposed, read-all, some-of}
use Rattle.cw_laws.proofs.Workers.{sound_at}
use Rattle.cw_laws.proofs.Lists.{each_from-each}
use Rattle.cw_laws.proofs.ValuesStand.{MayStand, values-allowed}
use Rattle.cw_laws.proofs.TaskTexts.{AreWritable, tasks-writable, tasks-few}
use Rattle.cw_rest.specs.Replies.{is_stopped}
use Rattle.cw_rest.specs.Operations.{commit_values}

-- ---- a connector's config

-- a record is allowed somewhere
abbrev Allowed : ConfigRecord → Type 0
Allowed r = (before : List ConfigRecord) × IsAllowedConfig before r

-- properties that a connector may have
pub record AreGood (props : Properties) : Type 0 where
  pub faultless : IsFaultless props
  pub writable : AreWritable props

value-good : (name : List ℕ) (props : Properties) (before : List ConfigRecord) (k : ConfigKey) (v : Option ConfigValue) → same_key k (key.Connector name) ≡ true →
    is_record k v ≡ true → IsConfigValue v → FitsBehind before k v → option_and_then properties_in v ≡ Some props → AreGood props
value-good name props before (key.Connector a) None same kind is fits there = absurd (cc)
value-good name props before (key.Connector a) (Some (value.Connector p)) same kind is fits there =
    let equal : p ≡ props = cc in subst AreGood equal record { faultless = fits; writable = is.1 }
value-good name props before (key.Connector a) (Some (value.Task p)) same kind is fits there = absurd (cc)
value-good name props before (key.Connector a) (Some (value.Commit n)) same kind is fits there = absurd (cc)
value-good name props before (key.Connector a) (Some (value.Target target)) same kind is fits there = absurd (cc)
value-good name props before (key.Connector a) (Some (value.Fencing n)) same kind is fits there = absurd (cc)
value-good name props before (key.Task id) v same kind is fits there = absurd (cc)
value-good name props before (key.Commit a) v same kind is fits there = absurd (cc)
value-good name props before (key.Target a) v same kind is fits there = absurd (cc)
value-good name props before (key.Fencing a) v same kind is fits there = absurd (cc)

config-good : (name : List ℕ) (records : List ConfigRecord) (props : Properties) → AreAllowedConfigs [] records → config_of name records ≡ Some props → AreGood props
config-good name records props allowed is = at (last_of (key.Connector name) records) refl is where
  at : (o : Option ConfigRecord) → last_of (key.Connector name) records ≡ o → option_and_then properties_in (value_of o) ≡ Some props → AreGood props
  at None none there = absurd (cc)
  at (Some r) found there =
      let parts = last_where-holds Allowed (has_key (key.Connector name)) records r
      (each_from-each IsAllowedConfig Allowed [] records (λ before r a. (before, a)) allowed) found in
      let a : IsAllowedConfig parts.0.0 r = parts.0.1 in
      value-good name props parts.0.0 r.key r.value parts.1 a.kind a.value a.fits there

-- ---- what it asks for

-- tasks that may be proposed
pub record AreProposed (name : List ℕ) (proposal : List Properties) : Type 0 where
  pub few : length proposal ≤ 1000
  pub writable : AllByRecursion AreWritable proposal
  pub tasks : AllByRecursion (λ config. IsSome (task_of name config)) proposal
  pub apart : AllPairs (λ a b. ShareNone (parts_at name a) (parts_at name b)) proposal

proposal-facts : (name : List ℕ) (records : List ConfigRecord) → AreAllowedConfigs [] records → AreProposed name (proposal_of name records)
proposal-facts name records allowed = at (config_of name records) refl where
  at : (o : Option Properties) → config_of name records ≡ o → AreProposed name (option_map_or task_configs o [])
  at None is = record { few = omega arith; writable = tt; tasks = tt; apart = λ i j d first below. absurd (omega arith) }
  at (Some props) is =
      let good : AreGood props = config-good name records props allowed is in
      record {
        few = tasks-few props;
        writable = tasks-writable props good.writable.1;
        tasks = recursion_from_All (λ config. IsSome (task_of name config)) (task_configs props) (each_is_task name props (task_configs props) good.faultless refl);
        apart = no_part_twice name props (task_configs props) good.faultless refl;
      }

-- ---- tasks that wait

abbrev pair : List ℕ → List ℕ → List ℕ × List ℕ
pair a b = (a, b)

property-decides : (p q : List ℕ × List ℕ) → Decides (same_property p q) (p ≡ q)
property-decides p q = (
  λ same. let parts = and_parts (bytes_eq p.0 q.0) (bytes_eq p.1 q.1) same in
      ap (λ a. pair a p.1) ((bytes_eq-Decides p.0 q.0).0 parts.0) ∙ ap (λ b. pair q.0 b) ((bytes_eq-Decides p.1 q.1).0 parts.1),
  λ equal. let first : bytes_eq p.0 q.0 ≡ true = (bytes_eq-Decides p.0 q.0).1 (ap (λ r. r.0) equal) in
      let second : bytes_eq p.1 q.1 ≡ true = (bytes_eq-Decides p.1 q.1).1 (ap (λ r. r.1) equal) in
      rw (first, second) refl,
)

properties-decide : (a b : Properties) → Decides (same_properties a b) (a ≡ b)
properties-decide a b = slice_eq-Decides property-decides a b (same_properties a b) refl

option-decides : (a b : Option Properties) → Decides (option_eq same_properties a b) (a ≡ b)
option-decides None None = (λ same. refl, λ equal. refl)
option-decides None (Some b) = (λ same. absurd (let never : false ≡ true = same in cc), λ equal. absurd (cc))
option-decides (Some a) None = (λ same. absurd (let never : false ≡ true = same in cc), λ equal. absurd (cc))
option-decides (Some a) (Some b) = (λ same. ap (λ (p : Properties). Some p) ((properties-decide a b).0 same), λ equal. (properties-decide a b).1 (cc))

deferred-is : (name : List ℕ) (records : List ConfigRecord) → are_deferred records name ≡ true →
    deferred_tasks name (length (proposal_of name records)) records ≡ map Some (proposal_of name records)
deferred-is name records deferred =
    (slice_eq-Decides option-decides (deferred_tasks name (length (proposal_of name records)) records) (map Some (proposal_of name records)) (are_deferred records name) refl).0 deferred

-- each of some places has what is asked of one that is there
all-there : (f : ℕ → Option Properties) (g : ℕ → Bool) → ((i : ℕ) (p : Properties) → f i ≡ Some p → g i ≡ true) → (a n : ℕ) (ys : List Properties) →
    map f (range_with_len a n) ≡ map Some ys → list_all g (range_with_len a n) ≡ true
all-there f g so a zero ys is = refl
all-there f g so a (suc n) [] is = absurd (cc)
all-there f g so a (suc n) (y ∷ ys) is =
    let here : f a ≡ Some y = cc in
    let rest : map f (range_with_len (a + 1) n) ≡ map Some ys = cc in
    let first : g a ≡ true = so a y here in
    let others : list_all g (range_with_len (a + 1) n) ≡ true = all-there f g so (a + 1) n ys rest in
    rw (first, others) refl

some-record : (o : Option ConfigRecord) (p : Properties) → option_and_then properties_in (value_of o) ≡ Some p → is_some o ≡ true
some-record None p there = absurd (cc)
some-record (Some r) p there = refl

get-some : (ys : List Properties) (i : ℕ) → i < length ys → slice_index_or (map Some ys) i None ≡ Some (slice_index_or ys i [])
get-some [] i within = absurd (omega arith)
get-some (y ∷ ys) zero within = refl
get-some (y ∷ ys) (suc i) within = get-some ys i (omega arith)

module _ (name : List ℕ) (records : List ConfigRecord) (named : IsName name) (allowed : AreAllowedConfigs [] records) where
  abbrev proposal : List Properties
  proposal = proposal_of name records

  facts : AreProposed name proposal
  facts = proposal-facts name records allowed

  waiting-at : are_deferred records name ≡ true → (i : ℕ) → i < length proposal → waiting_parts records name i ≡ parts_at name (slice_index_or proposal i [])
  waiting-at deferred i within =
      let there : slice_index_or (deferred_tasks name (length proposal) records) i None ≡ deferred_of (task_id name i) records =
      get_or-map-range_with_len (λ index. deferred_of (task_id name index) records) 0 (length proposal) i i None within (omega arith) in
      let is : deferred_of (task_id name i) records ≡ Some (slice_index_or proposal i []) =
      sym there ∙ ap (λ (l : List (Option Properties)). slice_index_or l i None) (deferred-is name records deferred) ∙ get-some proposal i within in
      ap (λ (o : Option Properties). parts_at name (unwrap_or o [])) is

  fits-commit : needs_tasks records name ≡ true → are_deferred records name ≡ true → FitsCommit records name (length proposal)
  fits-commit needs deferred = record {
    tasks = all-there (λ index. deferred_of (task_id name index) records) (λ index. is_some (deferred_record (task_id name index) records))
        (λ i p there. some-record (deferred_record (task_id name i) records) p there) 0 (length proposal) proposal (deferred-is name records deferred);
    apart = λ i j first below.
        rw (waiting-at deferred i (omega (arith, first, below)), waiting-at deferred j below) (facts.apart i j [] first below);
    stopped = λ stops. absurd (
        let runs : not (is_stopped (target_of name records)) ≡ true = and-first (not (is_stopped (target_of name records))) (not (are_configs (tasks_of name records) proposal)) needs in
        let stopped : is_stopped (target_of name records) ≡ true = rw stops refl in
        let never : not (is_stopped (target_of name records)) ≡ false = rw stopped refl in cc);
  }

-- ---- what is written

abbrev task_pair : List ℕ → ℕ × Properties → ConfigKey × Option ConfigValue
task_pair name p = (key.Task (task_id name p.0), Some (value.Task p.1))

tasks-stand : (name : List ℕ) (first : ℕ) (configs : List Properties) → IsName name → first + length configs < 2 ^ 32 → AllByRecursion AreWritable configs →
    AllByRecursion (λ config. IsSome (task_of name config)) configs → AllByRecursion MayStand (map (task_pair name) (enumerate_from first configs))
tasks-stand name first [] named few writable tasks = tt
tasks-stand name first (config ∷ configs) named few writable tasks = (
  record { key = (named, omega arith); kind = refl; value = (tt, writable.0); fits = λ before. tasks.0 },
  tasks-stand name (first + 1) configs named (omega arith) writable.1 tasks.1,
)

length-numbered : {A : Type 0} (n : ℕ) (xs : List A) → length (enumerate_from n xs) ≡ length xs
length-numbered n [] = refl
length-numbered n (x ∷ xs) = ap (λ k. suc k) (length-numbered (n + 1) xs)

length-mapped : {A B : Type 0} (f : A → B) (xs : List A) → length (map f xs) ≡ length xs
length-mapped f [] = refl
length-mapped f (x ∷ xs) = ap (λ k. suc k) (length-mapped f xs)

no-fences : (name : List ℕ) (first : ℕ) (configs : List Properties) →
    AllByRecursion (λ (r : ConfigKey × Option ConfigValue). is_fence_key r.0 ≡ false) (map (task_pair name) (enumerate_from first configs))
no-fences name first [] = tt
no-fences name first (config ∷ configs) = (refl, no-fences name (first + 1) configs)

-- tasks that wait for nothing are some
some-proposed : (name : List ℕ) (records : List ConfigRecord) (configs : List Properties) → are_configs (deferred_tasks name (length configs) records) configs ≡ false → 1 ≤ length configs
some-proposed name records [] none = absurd (let never : true ≡ false = none in cc)
some-proposed name records (config ∷ configs) none = omega arith

-- a connector's tasks, or their commit, may be written
pub may-append : (leader : ℕ) (name : List ℕ) (s : Cluster) → IsSome (row_of leader s).lead → IsName name → AreAllowedConfigs [] s.configs → needs_tasks s.configs name ≡ true →
    MayAppendConfig leader (if are_deferred s.configs name then commit_values name (length (proposal_of name s.configs)) else task_records name (proposal_of name s.configs)) s
may-append leader name s leads named allowed needs = either (are_deferred s.configs name) refl where
  asked : AreProposed name (proposal_of name s.configs)
  asked = proposal-facts name s.configs allowed

  either : (b : Bool) → are_deferred s.configs name ≡ b →
      MayAppendConfig leader (if b then commit_values name (length (proposal_of name s.configs)) else task_records name (proposal_of name s.configs)) s
  either true deferred = record {
    leads = leads;
    some = omega arith;
    few = omega arith;
    allowed = (record { rising = omega arith; key = named; kind = refl; value = (omega (arith, asked.few), tt); fits = fits-commit name s.configs named allowed needs deferred }, tt);
    no_fence = All-from_recursion (λ (r : ConfigKey × Option ConfigValue). is_fence_key r.0 ≡ false) (commit_values name (length (proposal_of name s.configs))) (refl, tt);
  }
  either false none =
      let size : length (task_records name (proposal_of name s.configs)) ≡ length (proposal_of name s.configs) =
      length-mapped (task_pair name) (enumerate_from 0 (proposal_of name s.configs)) ∙ length-numbered 0 (proposal_of name s.configs) in
      record {
        leads = leads;
        some = omega (arith, size, some-proposed name s.configs (proposal_of name s.configs) none);
        few = omega (arith, size, asked.few);
        allowed = values-allowed (stamp_of s) s.configs (end_of s.configs) (task_records name (proposal_of name s.configs)) (omega arith)
            (tasks-stand name 0 (proposal_of name s.configs) named (omega (arith, asked.few)) asked.writable asked.tasks);
        no_fence = All-from_recursion (λ (r : ConfigKey × Option ConfigValue). is_fence_key r.0 ≡ false) (task_records name (proposal_of name s.configs))
            (no-fences name 0 (proposal_of name s.configs));
      }

-- ---- a worker's proposal

-- what is so of each item that is one of a list
all-of : (P : Item → Type 0) (items : List Item) → ((x : Item) → has items x ≡ true → P x) → AllByRecursion P items
all-of P [] so = tt
all-of P (x ∷ items) so = (
  so x (let itself : same_item x x ≡ true = (same_item-Decides x x).1 refl in rw itself refl),
  all-of P items (λ y there. so y (or_right (same_item y x) (has items y) there)),
)

-- each connector of some items with names is one with a name
connectors-named : (items : List Item) → AllByRecursion IsItem items → AllByRecursion IsName (filter_map connector_in items)
connectors-named [] each = tt
connectors-named (Connector name ∷ items) each = (each.0, connectors-named items each.1)
connectors-named (Task id ∷ items) each = connectors-named items each.1

held-named : (w : ℕ) (s : Cluster) → RowFacts s → AllByRecursion IsItem (held w s)
held-named w s f = all-of IsItem (held w s) (λ x there.
    let any : list_any (holds_at w x) s.instances ≡ true = sym (held-any s w x) ∙ there in
    let found = any-holds (IsSoundInstance s) (holds_at w x) s.instances f.instances any in
    let same : x ≡ found.0.item = (same_item-Decides x found.0.item).0 (and-second (is_at w found.0) (same_item x found.0.item) found.1.1) in
    subst IsItem (sym same) found.1.0.named)

-- a leader through which a worker is ready has its epoch
pub leader-leads : (phase : RowPhase) (leader : ℕ) (s : Cluster) → leader_for phase s ≡ Some leader → IsSome (row_of leader s).lead
leader-leads Out leader s is = absurd (cc)
leader-leads Joining leader s is = absurd (cc)
leader-leads (Stable round at) leader s is = of (leads_round round at s) refl is where
  of : (b : Bool) → leads_round round at s ≡ b → (if b then Some at else None) ≡ Some leader → IsSome (row_of leader s).lead
  of false none is = absurd (cc)
  of true leads is =
      let same : at ≡ leader = cc in
      let epoch : is_some (row_of at s).lead ≡ true =
      and-second (is_active s at && is_stable_in round (row_of at s).phase && leads-it at (row_of at s).phase) (is_some (row_of at s).lead) leads in
      subst (λ v. IsSome (row_of v s).lead) same (some-of (row_of at s).lead epoch)

pub proposes-well : (w : ℕ) (s : Cluster) → RowFacts s → AreAllowedConfigs [] s.configs → ProposesWell w s
proposes-well w s f allowed p applies all = with_leader (ready w s) refl applies where
  whole : IsSome (row_of p.leader s).lead → find (needs_tasks (seen w s)) (filter_map connector_in (held w s)) ≡ Some p.connector →
      MayAppendConfig p.leader (proposed w s p.connector) s
  whole leads found =
      let parts = found-holds IsName (needs_tasks (seen w s)) (filter_map connector_in (held w s)) p.connector (connectors-named (held w s) (held-named w s f)) found in
      let may : MayAppendConfig p.leader
      (if are_deferred s.configs p.connector then commit_values p.connector (length (proposal_of p.connector s.configs)) else task_records p.connector (proposal_of p.connector s.configs)) s =
      may-append p.leader p.connector s leads parts.0 allowed (subst (λ (l : List ConfigRecord). needs_tasks l p.connector ≡ true) all parts.1) in
      subst (λ (l : List ConfigRecord). MayAppendConfig p.leader
      (if are_deferred l p.connector then commit_values p.connector (length (proposal_of p.connector l)) else task_records p.connector (proposal_of p.connector l)) s) (sym all) may

  active : (b : Bool) (leader : ℕ) → (if b then leader_for (row_of w s).phase s else None) ≡ Some leader → IsSome (row_of leader s).lead
  active true leader is = leader-leads (row_of w s).phase leader s is
  active false leader is = absurd (cc)

  name-of : (o : Option (List ℕ)) (leader : ℕ) → option_map (λ name. record { leader = leader; connector = name }) o ≡ Some p → (o ≡ Some p.connector) × (leader ≡ p.leader)
  name-of None leader is = absurd (cc)
  name-of (Some name) leader is =
      let same : record { leader = leader; connector = name } ≡ p = cc in (ap (λ (q : Proposing). Some q.connector) same, ap (λ (q : Proposing). q.leader) same)

  with_leader : (o : Option ℕ) → ready w s ≡ o →
      option_map_or (λ leader. option_map (λ name. record { leader = leader; connector = name }) (find (needs_tasks (seen w s)) (filter_map connector_in (held w s)))) o None ≡ Some p →
      MayAppendConfig p.leader (proposed w s p.connector) s
  with_leader None none is = absurd (cc)
  with_leader (Some leader) there is =
      let parts = name-of (find (needs_tasks (seen w s)) (filter_map connector_in (held w s))) leader is in
      whole (subst (λ v. IsSome (row_of v s).lead) parts.1 (active (is_active s w) leader there)) parts.0

-- of a state with all facts
module _ (setting : Setting) (s : Cluster) (w : ℕ) (p : Proposing) (f : AreFacts setting s) (none : read_applies w s ≡ false) (applies : propose_applies w s ≡ Some p) where
  may : MayAppendConfig p.leader (proposed w s p.connector) s
  may = proposes-well w s f.rows f.logs.configs.allowed p applies (read-all w s (sound_at s f.rows w) none)

  -- its tasks may be written, where they don't wait yet
  pub tasks-may : are_deferred (seen w s) p.connector ≡ false → MayAppendConfig p.leader (task_records p.connector (proposal_of p.connector (seen w s))) s
  tasks-may is = subst
      (λ (b : Bool). MayAppendConfig p.leader (if b then commit_values p.connector (length (proposal_of p.connector (seen w s))) else task_records p.connector (proposal_of p.connector (seen w s))) s) is may

  -- and then their commit
  pub commit-may : are_deferred (seen w s) p.connector ≡ true → MayAppendConfig p.leader (commit_values p.connector (length (proposal_of p.connector (seen w s)))) s
  commit-may is = subst
      (λ (b : Bool). MayAppendConfig p.leader (if b then commit_values p.connector (length (proposal_of p.connector (seen w s))) else task_records p.connector (proposal_of p.connector (seen w s))) s) is may

-- a worker that is ready writes through a leader that has its epoch
pub ready-leads : (w leader : ℕ) (s : Cluster) → ready w s ≡ Some leader → IsSome (row_of leader s).lead
ready-leads w leader s is = of (is_active s w) is where
  of : (b : Bool) → (if b then leader_for (row_of w s).phase s else None) ≡ Some leader → IsSome (row_of leader s).lead
  of true is = leader-leads (row_of w s).phase leader s is
  of false is = absurd (cc)
