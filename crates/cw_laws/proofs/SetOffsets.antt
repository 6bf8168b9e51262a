-- Offsets of a stopped connector that are set, all its producers fenced in the same frame, keep all facts.
use Rattle.std.proofs.Common.{◌≡◌, ℕ, zero, suc, ◌+◌, ◌<◌, ◌≤◌, ◌^◌, ◌++◌, ◌∷◌, [], Bool, true, false, List, Option, Some, None, length, map, nat_lt, option_and_then, unwrap_or, refl, sym, ap, subst, ◌∙◌, arith, append_assoc, length-append, append-nil}
use Rattle.std.specs.Str.{bytes_eq}
use Rattle.std.specs.List.{AllByRecursion, filter_map, flat_map, list_any, zip}
use Rattle.std.proofs.lemmas.Bool.{leb-true, ltb-true, or_from, false_from_ne_true}
use Rattle.std.proofs.lemmas.Bool.Decides.{Decides-eqb}
use Rattle.std.proofs.lemmas.Slice.Eq.{bytes_eq-Decides}
use Rattle.std.proofs.lemmas.List.Concat.{flat_map-append}
use Rattle.std.proofs.lemmas.List.Elements.{All-map, recursion_from_All, filter_map-append}
use Rattle.cw_types.specs.Name.{IsName}
use Rattle.cw_types.specs.declared.ids.Epoch.{Epoch}
use Rattle.cw_types.specs.declared.ids.Tid.{Tid}
use Rattle.cw_types.specs.declared.ids.Tid.TheVariants as producer
use Rattle.cw_types.specs.declared.ids.Tag.{Tag}
use Rattle.cw_types.specs.declared.ids.TaskId.{TaskId}
use Rattle.cw_types.specs.declared.ids.PartKey.{PartKey}
use Rattle.cw_types.specs.Same.{same_part, connector_of}
use Rattle.cw_types.proofs.SameLemmas.{same_part-Decides}
use Rattle.cw_bytes.specs.Spelling.{word, long, tid_bytes, part_bytes}
use Rattle.cw_keys.specs.ConfigKeys.{IsConfigKey}
use Rattle.cw_keys.specs.declared.config_key.ConfigKey.{ConfigKey}
use Rattle.cw_keys.specs.declared.config_key.ConfigKey.TheVariants.{Connector, Task, Commit, Target as TargetKey, Fencing}
use Rattle.cw_keys.specs.declared.target.Target.TheVariants.{Started, Stopped}
use Rattle.cw_config.specs.declared.records.ConfigRecord.{ConfigRecord}
use Rattle.cw_config.specs.Records.{has_key, same_key, last_of, value_of}
use Rattle.cw_config.specs.View.{target_in, target_of, task_count_of, fenced_count_of}
use Rattle.cw_plugin.specs.declared.task.TaskSpec.{TaskSpec}
use Rattle.cw_plugin.specs.Parts.{task_of as task_with}
use Rattle.cw_rest.specs.Operations.{offset_entries}
use Rattle.cw_txn.specs.declared.entry.Entry.{Entry}
use Rattle.cw_txn.specs.declared.entry.Entry.TheVariants.{Set}
use Rattle.cw_txn.specs.declared.entry.SetOffset.{SetOffset}
use Rattle.cw_txn.specs.Allowed.{IsAllowedBehind}
use Rattle.cw_txn.specs.Body.{IsSet, IsEntry, AreEntries, offset_bytes, set_bytes, list_bytes, entry_bytes, entries_bytes}
use Rattle.cw_txn.specs.Legal.{epoch_of}
use Rattle.cw_txn.proofs.Walks.{epoch_of_le}
use Rattle.cw_txn.proofs.AllowedLemmas.{part_of_set}
use Rattle.cw_model.specs.State.{Setting, Cluster}
use Rattle.cw_model.specs.Lookups.{row_of, instance_of, last_epoch, list_end, end_or_start}
use Rattle.cw_model.specs.Updates.{fits_entries, with_entries, epoch_in}
use Rattle.cw_model.specs.Bodies.{txn_length}
use Rattle.cw_model.specs.Tasks.{parts_of}
use Rattle.cw_model.specs.EventsLeading.{set_offsets, MaySetOffsets}
use Rattle.cw_model.specs.ConfigsAllowed.{AreAllowedConfigs}
use Rattle.cw_model.specs.Facts.{AreFacts}
use Rattle.cw_model.specs.FactsProducers.{IsOfTask, IsUnfenced, IsNewest, IsBelow, commit_tag, commit_tags, commits_up_to}
use Rattle.cw_laws.proofs.Wrappers.{worker-keeps, leader-keeps, entries-keeps}
use Rattle.cw_laws.proofs.Lists.{each-append, each-weaker}
use Rattle.cw_laws.proofs.Configs.{each-allowed, last_where-holds, found_count-fits}
use Rattle.cw_laws.proofs.ConfigViews.{task_of-none}
use Rattle.cw_laws.proofs.AllowedTasks.{stopped-no_tasks}
use Rattle.cw_laws.proofs.Leading.{without_lead-keeps}
use Rattle.cw_laws.proofs.AtInstance.{InstanceFacts, facts_of_one, facts_of_two, facts_of_all}
use Rattle.cw_laws.proofs.EntryPush.{end-stays, set-leaves}
use Rattle.cw_laws.proofs.Others.{other_facts, all_facts}
use Rattle.cw_laws.proofs.Entered.{EntryFacts, listed, entry_facts, entry-behind, others-with, StaysAtEnds, unfenced-back, same-epoch, enters, pair-enters}
use Rattle.cw_laws.proofs.SetStands.{set-stands}
use Rattle.cw_laws.proofs.BumpedTasks.{bumps_from, epoch-joined, bumped-later, lead-not_bumped, tags-not_bumped, end-not_bumped, bumps-listed}
use Rattle.cw_laws.proofs.AtWork.{HasSpec}
use Rattle.cw_laws.proofs.Apart.{spec_at, connectors_at}
use Rattle.cw_laws.proofs.Written.{list-short, frame-few, few-by-bytes}
use Rattle.cw_laws.proofs.Ends.{map-agree, zip-so}

-- ---- a stopped connector has a name

target_key : (key : ConfigKey) (name : List ℕ) → same_key key (TargetKey name) ≡ true → key ≡ TargetKey name
target_key (TargetKey a) name same = ap (λ (n : List ℕ). TargetKey n) ((bytes_eq-Decides a name).0 same)
target_key (Connector a) name same = absurd (cc)
target_key (Task a) name same = absurd (cc)
target_key (Commit a) name same = absurd (cc)
target_key (Fencing a) name same = absurd (cc)

stopped-name : (name : List ℕ) (records : List ConfigRecord) → AreAllowedConfigs [] records → target_of name records ≡ Stopped → IsName name
stopped-name name records allowed stopped = at (last_of (TargetKey name) records) refl stopped where
  at : (o : Option ConfigRecord) → last_of (TargetKey name) records ≡ o → unwrap_or (option_and_then target_in (value_of o)) Started ≡ Stopped → IsName name
  at None none is = cc
  at (Some r) found is =
      let parts = last_where-holds (λ r. IsConfigKey r.key) (has_key (TargetKey name)) records r
      (each-allowed (λ r. IsConfigKey r.key) [] records (λ before r fits. fits.key) allowed) found in
      subst IsConfigKey (target_key r.key name parts.1) parts.0

-- ---- what is written

bumps-written : (name : List ℕ) → IsName name → (from count : ℕ) → from + count ≤ 2 ^ 32 → AllByRecursion IsEntry (bumps_from name from count)
bumps-written name named from zero few = tt
bumps-written name named from (suc count) few = ((named, omega arith), bumps-written name named (from + 1) count (omega arith))

offset-some : (o : Option ℕ) → 1 ≤ length (offset_bytes o)
offset-some None = omega arith
offset-some (Some n) = omega arith

set-some : (set : SetOffset) → 1 ≤ length (set_bytes set)
set-some set = omega (arith, offset-some set.to, length-append (part_bytes set.part) (offset_bytes set.to))

-- an entry that sets offsets has more bytes than offsets, and so has its frame
set-few : (bumps : List Entry) (tid : Tid) (epoch : Epoch) (list : List SetOffset) → length list ≤ length (entries_bytes (bumps ++ Set tid epoch list ∷ []))
set-few bumps tid epoch list = omega (
  arith,
  few-by-bytes set_bytes list set-some,
  length-append (word (length list)) (flat_map set_bytes list),
  length-append (long epoch.0) (list_bytes set_bytes list),
  length-append (tid_bytes tid) (long epoch.0 ++ list_bytes set_bytes list),
  length-append (entry_bytes (Set tid epoch list)) [],
  ap length (flat_map-append entry_bytes bumps (Set tid epoch list ∷ [])),
  length-append (flat_map entry_bytes bumps) (flat_map entry_bytes (Set tid epoch list ∷ [])),
  length-append (word (length (bumps ++ Set tid epoch list ∷ []))) (flat_map entry_bytes (bumps ++ Set tid epoch list ∷ [])),
)

-- ---- parts of another connector

not_set : (part : PartKey) (name : List ℕ) (list : List SetOffset) → AllByRecursion (λ set. connector_of set.part ≡ Some name) list → (connector_of part ≡ Some name → ⊥) →
    list_any (λ set. same_part part set.part) list ≡ false
not_set part name [] own other = refl
not_set part name (set ∷ list) own other = or_from (same_part part set.part) (list_any (λ s. same_part part s.part) list)
    (false_from_ne_true (same_part part set.part) (λ same. other (ap connector_of ((same_part-Decides part set.part).0 same) ∙ own.0)))
    (not_set part name list own.1 other)

-- ---- the event

module _ (setting : Setting) (w : ℕ) (name : List ℕ) (epoch : Epoch) (list : List SetOffset) (s : Cluster) (may : MaySetOffsets w name list s)
    (current : epoch.0 ≡ last_epoch producer.Lead s) (f : AreFacts setting s) where
  abbrev count : ℕ
  count = fenced_count_of name s.configs

  abbrev bumps : List Entry
  bumps = bumps_from name 0 count

  abbrev e : Entry
  e = Set producer.Lead epoch list

  abbrev frame : List Entry
  frame = bumps ++ e ∷ []

  abbrev mid : Cluster
  mid = with_entries frame s

  configs : AreAllowedConfigs [] s.configs
  configs = f.logs.configs.allowed

  own : AllByRecursion (λ set. connector_of set.part ≡ Some name) list
  own = recursion_from_All (λ (set : SetOffset). connector_of set.part ≡ Some name) list may.own

  -- the list with the bumps, and then with the offsets
  bumped : EntryFacts setting (listed bumps s)
  bumped = bumps-listed setting name 0 count s (entry_facts setting s (other_facts setting s f))

  lead-stays : epoch_of producer.Lead (s.entries ++ bumps) ≡ epoch_of producer.Lead s.entries
  lead-stays = omega (arith, epoch-joined producer.Lead s.entries bumps, lead-not_bumped name 0 count)

  allowed : IsAllowedBehind (s.entries ++ bumps) e
  allowed = record {
    legal = current ∙ sym lead-stays;
    distinct = may.distinct;
    own = (name, All-map (λ (part : PartKey). connector_of part ≡ Some name) part_of_set list may.own);
  }

  set : EntryFacts setting (listed frame s)
  set = subst (λ (l : List Entry). EntryFacts setting (record s { entries = l })) (append_assoc s.entries bumps (e ∷ []))
      (entry-behind setting e (listed bumps s) (set-stands setting (listed bumps s) producer.Lead epoch list allowed bumped) bumped)

  few : list_end s.entries + 17 < 2 ^ 64
  few = list-short setting s f.logs

  count-fits : count < 2 ^ 32
  count-fits = found_count-fits (has_key (Fencing name)) s.configs configs

  short : fits_entries frame s ≡ true → length (entries_bytes frame) < 2 ^ 32
  short room = omega (arith, leb-true (txn_length s + (length (entries_bytes frame) + 5)) (2 ^ 28) room)

  written : fits_entries frame s ≡ true → AreEntries frame
  written room = record {
    some = omega (arith, length-append bumps (e ∷ []));
    list = (
      omega (arith, frame-few frame, short room),
      each-append IsEntry bumps (e ∷ []) (bumps-written name (stopped-name name s.configs configs may.stopped) 0 count (omega (arith, count-fits))) (
        (
          tt,
          omega (arith, current, epoch_of_le producer.Lead s.entries, few),
          (omega (arith, set-few bumps producer.Lead epoch list, short room), recursion_from_All IsSet list may.fit),
        ),
        tt,
      ),
    );
  }

  grow : (tid : Tid) → epoch_of tid s.entries ≤ epoch_of tid mid.entries
  grow tid = omega (arith, epoch-joined tid s.entries frame)

  abbrev old : PartKey → ℕ
  old q = end_or_start q s.entries

  abbrev new : PartKey → ℕ
  new q = end_or_start q mid.entries

  end-other : (q : PartKey) → (connector_of q ≡ Some name → ⊥) → new q ≡ old q
  end-other q other =
      ap (end_or_start q) (sym (append_assoc s.entries bumps (e ∷ [])))
      ∙ end-stays q (s.entries ++ bumps) e (set-leaves q producer.Lead epoch list (not_set q name list own other))
      ∙ end-not_bumped q name 0 count s.entries

  -- the ends of another connector's parts stay
  ends-other : (k : ℕ) (id : TaskId) → bytes_eq id.connector name ≡ false → IsOfTask s k id → AllByRecursion (λ q. new q ≡ old q) (parts_of (instance_of k s))
  ends-other k id other o = each-weaker (λ q. connector_of q ≡ Some id.connector) (λ q. new q ≡ old q) (parts_of (instance_of k s)) (λ q of. end-other q (apart q of)) (connectors_at s k id f.rows.instances o) where
    apart : (q : PartKey) → connector_of q ≡ Some id.connector → connector_of q ≡ Some name → ⊥
    apart q of named =
        let one : id.connector ≡ name = cc in
        let same : bytes_eq id.connector name ≡ true = (bytes_eq-Decides id.connector name).1 one in cc

  -- no producer of the connector is unfenced behind it
  none_unfenced : (k : ℕ) (id : TaskId) → IsUnfenced mid k id → bytes_eq id.connector name ≡ true → ⊥
  none_unfenced k id x same =
      let g : InstanceFacts setting s k = facts_of_one setting s f.producers k in
      let one : id.connector ≡ name = (bytes_eq-Decides id.connector name).0 same in
      let counted : id.index < fenced_count_of id.connector s.configs = g.counted id (unfenced-back setting s mid.txn mid.entries grow f.rows k g id x) in
      let below : id.index < count = subst (λ (n : List ℕ). id.index < fenced_count_of n s.configs) one counted in
      let later : 1 ≤ epoch_of (producer.Task id) bumps = subst (λ (n : List ℕ). 1 ≤ epoch_of (producer.Task (record { connector = n; index = id.index })) bumps) (sym one)
      (bumped-later name id.index 0 count (omega arith) (omega arith)) in
      let stays : last_epoch (producer.Task id) mid ≡ last_epoch (producer.Task id) s = same-epoch setting s mid.txn mid.entries grow f.rows k g id x in
      omega (arith, later, stays, epoch-joined (producer.Task id) s.entries frame, epoch-joined (producer.Task id) bumps (e ∷ []))

  -- nor is an instance of its newest generation, which has no task
  none_newest : (k : ℕ) (id : TaskId) → IsNewest s k id → bytes_eq id.connector name ≡ true → ⊥
  none_newest k id x same =
      let one : id.connector ≡ name = (bytes_eq-Decides id.connector name).0 same in
      let none : task_count_of id.connector s.configs ≡ 0 = ap (λ (n : List ℕ). task_count_of n s.configs) one ∙ stopped-no_tasks name s.configs configs may.stopped in
      let over : nat_lt id.index (task_count_of id.connector s.configs) ≡ false = ap (nat_lt id.index) none ∙ never_below id.index in
      let spec : HasSpec id (instance_of k s) = spec_at s k id f.rows.instances x.is_task in
      no_task spec.spec (sym (ap (option_and_then (task_with id.connector)) (task_of-none id s.configs over)) ∙ f.producers.task k id x ∙ spec.has)
    where
      never_below : (n : ℕ) → nat_lt n 0 ≡ false
      never_below n = false_from_ne_true (nat_lt n 0) (λ below. absurd (omega (arith, ltb-true n 0 below)))

      no_task : (spec : TaskSpec) → None ≡ Some spec → ⊥
      no_task spec is = cc

  tags-same : commit_tags mid ≡ commit_tags s
  tags-same =
      filter_map-append commit_tag s.entries frame
      ∙ ap (λ (l : List Tag). commit_tags s ++ l) (filter_map-append commit_tag bumps (e ∷ []) ∙ append-nil (filter_map commit_tag bumps) ∙ tags-not_bumped name 0 count)
      ∙ append-nil (commit_tags s)

  ends-by : (b : Bool) (k : ℕ) (id : TaskId) → bytes_eq id.connector name ≡ b → IsUnfenced mid k id → map new (parts_of (instance_of k s)) ≡ map old (parts_of (instance_of k s))
  ends-by true k id same x = absurd (none_unfenced k id x same)
  ends-by false k id other x = map-agree new old (parts_of (instance_of k s))
      (ends-other k id other (unfenced-back setting s mid.txn mid.entries grow f.rows k (facts_of_one setting s f.producers k) id x).last.is_task)

  ahead-by : (b : Bool) (k : ℕ) (id : TaskId) → bytes_eq id.connector name ≡ b → IsNewest s k id → AllByRecursion (λ (p : PartKey × ℕ). p.1 ≤ new p.0) (zip (parts_of (instance_of k s)) (instance_of k s).positions)
  ahead-by true k id same x = absurd (none_newest k id x same)
  ahead-by false k id other x = zip-so (λ q. new q ≡ old q) (λ (p : PartKey × ℕ). p.1 ≤ old p.0) (λ (p : PartKey × ℕ). p.1 ≤ new p.0) (parts_of (instance_of k s)) (instance_of k s).positions
      (λ p stays below. omega (arith, stays, below)) (ends-other k id other x.is_task) (f.producers.not_ahead k id x)

  stays : (k : ℕ) → StaysAtEnds s mid k
  stays k = record {
    ends = λ id x at. ends-by (bytes_eq id.connector name) k id refl x;
    ahead = λ id x. ahead-by (bytes_eq id.connector name) k id refl x;
    commits = λ id epoch' o has. subst (λ (tags : List Tag). AllByRecursion (IsBelow id epoch' (commits_up_to (instance_of k s))) tags) (sym tags-same) (f.producers.numbers k id epoch' o has).commits;
  }

  pub set_offsets-done : fits_entries frame s ≡ true → AreFacts setting mid
  set_offsets-done room = all_facts setting mid (others-with setting frame s set (written room) room (grow producer.Lead) (other_facts setting s f))
      (facts_of_all setting mid
      (λ k. enters setting s mid.txn mid.entries grow f.rows k (facts_of_one setting s f.producers k) (stays k))
      (λ a b ne. pair-enters setting s mid.txn mid.entries grow f.rows a b (facts_of_one setting s f.producers a) (facts_of_one setting s f.producers b) (facts_of_two setting s f.producers a b ne)))

epoch-of_lead : (o : Option Epoch) → (unwrap_or o (record { 0 = 0 })).0 ≡ epoch_in o
epoch-of_lead None = refl
epoch-of_lead (Some epoch) = refl

pub set_offsets-keeps : (setting : Setting) (w : ℕ) (name : List ℕ) (list : List SetOffset) (s : Cluster) → MaySetOffsets w name list s → AreFacts setting s → AreFacts setting (set_offsets w name list s).1
set_offsets-keeps setting w name list s may f = worker-keeps (AreFacts setting) w s _ f (λ live. leader-keeps (AreFacts setting) w s _ (without_lead-keeps setting w s f) (λ current.
    entries-keeps (AreFacts setting) s (offset_entries name (fenced_count_of name s.configs) (unwrap_or (row_of w s).lead (record { 0 = 0 })) list) _ _ f (λ room.
    set_offsets-done setting w name (unwrap_or (row_of w s).lead (record { 0 = 0 })) list s may
    (epoch-of_lead (row_of w s).lead ∙ (Decides-eqb (epoch_in (row_of w s).lead) (last_epoch producer.Lead s)).0 current) f room)))
