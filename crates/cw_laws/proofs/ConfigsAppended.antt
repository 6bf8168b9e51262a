-- A frame of allowed records that the config log has room for: all facts stay where producers that aren't fenced are of
-- what the last fence stands for then.
use Rattle.std.proofs.Common.{◌≡◌, ℕ, ◌<◌, ◌≤◌, ◌^◌, true, List, [], ◌∷◌, ◌++◌, length, map, take, Option, Some, None, refl, sym, subst, ap, ◌∙◌, arith, length-append, append_assoc}
use Rattle.std.specs.Option.{IsSomeAnd, IsSome}
use Rattle.std.specs.List.{AllByRecursion, Any, filter_map, cons_option, list_all}
use Rattle.std.proofs.lemmas.List.{append-nil, length-map, take-append-le, take_all}
use Rattle.std.proofs.lemmas.List.Elements.{filter_map-append}
use Rattle.std.proofs.Math.ListN.{get_or-append}
use borrow.Author.Tests.{ltb-true}
use Rattle.cw_types.specs.declared.ids.TaskId.{TaskId}
use Rattle.cw_types.specs.declared.ids.Item.{Item}
use Rattle.cw_types.specs.declared.ids.Item.TheVariants.{Connector, Task}
use Rattle.cw_types.specs.declared.ids.Tid.TheVariants as producer
use Rattle.cw_bytes.specs.declared.applied.Applied.{Applied}
use Rattle.cw_bytes.specs.Spelling.{AreRecords}
use Rattle.cw_keys.proofs.Values.{config_law}
use Rattle.cw_config.specs.declared.records.ConfigRecord.{ConfigRecord}
use Rattle.cw_config.specs.View.{generation_of, fenced_count_of}
use Rattle.cw_config.specs.Acceptance.{end_of, record_with}
use Rattle.cw_bytes.specs.Frames.{joined}
use Rattle.cw_config.specs.Compaction.{config_in}
use Rattle.cw_model.specs.declared.row.Row.{Row}
use Rattle.cw_model.specs.declared.row.Fencing.{Fencing}
use Rattle.cw_model.specs.declared.instance.Instance.{Instance}
use Rattle.cw_model.specs.State.{Setting, Cluster}
use Rattle.cw_model.specs.Lookups.{row_of, instance_of, no_instance, last_epoch, list_end}
use Rattle.cw_model.specs.Bodies.{config_applied, config_body, config_length, frame_of, has_room}
use Rattle.cw_model.specs.Updates.{with_configs, fits_configs, is_offset}
use Rattle.cw_model.specs.ConfigsAllowed.{IsAllowedConfig, AreAllowedConfigs}
use Rattle.cw_model.specs.Fences.{fenced_generation_of}
use Rattle.cw_model.specs.Safe.{IsFenced}
use Rattle.cw_model.specs.Facts.{AreFacts}
use Rattle.cw_model.specs.FactsLogs.{LogFacts, ConfigFacts, standing_configs}
use Rattle.cw_model.specs.FactsRows.{RowFacts, IsSoundRow, IsSoundInstance, IsOfItem, IsBegun, IsCommitOf}
use Rattle.cw_model.specs.FactsProducers.{ProducerFacts, Writes, IsUnfenced, IsNewest, batches_up_to, commits_up_to}
use Rattle.cw_laws.proofs.Lists.{each-append, each-push, each-weaker, each-at}
use Rattle.cw_laws.proofs.Frames.{exact-frame, backed-frame}
use Rattle.cw_laws.proofs.Grows.{grows-configs, journal-stays}
use Rattle.cw_laws.proofs.Disks.{configs-fit, and-first, and-second}
use Rattle.cw_laws.proofs.Rows.{same_member, StaysMember, disjoint-stays, group-stays}
use Rattle.cw_laws.proofs.AtInstance.{used-frame}
use Rattle.cw_laws.proofs.Configs.{seen-generation}
use Rattle.cw_laws.proofs.Allowed.{each_from-append, allowed-rises}
use Rattle.cw_laws.proofs.Newest.{SameSet, newest-set, same-spec}
use Rattle.cw_laws.proofs.ConfigsPush.{config_facts-append}
use Rattle.cw_laws.proofs.Written.{HasNumbers, end-fits, records-written, joined-push}
use Rattle.cw_config.proofs.Pushed.{end_of-push}

-- ---- records are read again as they are written

pub read-again : (before : List ConfigRecord) (r : ConfigRecord) → IsAllowedConfig before r →
    config_in (config_applied r) ≡ Some r
read-again before r a = ap (record_with r.offset r.stamp) (config_law r.key r.value a.key a.value a.kind)

pub configs-read : (before xs : List ConfigRecord) → AreAllowedConfigs before xs →
    filter_map config_in (map config_applied xs) ≡ xs
configs-read before [] each = refl
configs-read before (r ∷ xs) each =
    ap (λ (o : Option ConfigRecord). cons_option o (filter_map config_in (map config_applied xs)))
    (read-again before r each.0)
    ∙ ap (λ (l : List ConfigRecord). r ∷ l) (configs-read (before ++ r ∷ []) xs each.1)

each-read_again : (before xs : List ConfigRecord) → AreAllowedConfigs before xs →
    AllByRecursion (λ a. IsSome (config_in a)) (map config_applied xs)
each-read_again before [] each = tt
each-read_again before (r ∷ xs) each = (
  subst (λ (o : Option ConfigRecord). IsSome o) (sym (read-again before r each.0)) refl,
  each-read_again (before ++ r ∷ []) xs each.1,
)

-- ---- what only grows with the config log

pub end-grows : (before xs : List ConfigRecord) → end_of before ≤ end_of (before ++ xs)
end-grows before [] = subst (λ (l : List ConfigRecord). end_of before ≤ end_of l) (sym (append-nil before))
    (omega arith)
end-grows before (r ∷ xs) =
    subst (λ (l : List ConfigRecord). end_of before ≤ end_of l) (append_assoc before (r ∷ []) xs)
    (omega (arith, end_of-push before r, end-grows (before ++ r ∷ []) xs))

pub any-append : {X : Type 0} (P : X → Type 0) (xs ys : List X) → Any P xs → Any P (xs ++ ys)
any-append P xs ys a = (a.0, a.1, omega (arith, a.2, length-append xs ys), get_or-append xs ys a.1 a.0 a.2 ∙ a.3, a.4)

pub generation-grows : (name : List ℕ) (before xs : List ConfigRecord) (g : ℕ) → AreAllowedConfigs [] before →
    AreAllowedConfigs before xs → IsSomeAnd (generation_of name before) (λ n. g ≤ n) →
    IsSomeAnd (generation_of name (before ++ xs)) (λ n. g ≤ n)
generation-grows name before xs g allowed more is =
    let front : take (length before) (before ++ xs) ≡ before =
    take-append-le (length before) before xs (omega arith) ∙ take_all (length before) before (omega arith) in
    seen-generation name (length before) g (before ++ xs) (each_from-append IsAllowedConfig [] before xs allowed more)
    (subst (λ (l : List ConfigRecord). IsSomeAnd (generation_of name l) (λ n. g ≤ n)) (sym front) is)

begun-grows : (before xs : List ConfigRecord) (fencing : Option Fencing) → AreAllowedConfigs [] before →
    AreAllowedConfigs before xs → IsBegun before fencing → IsBegun (before ++ xs) fencing
begun-grows before xs None allowed more begun = tt
begun-grows before xs (Some fencing) allowed more begun = record {
  generation = generation-grows fencing.connector before xs fencing.generation allowed more begun.generation;
  count = begun.count;
  next = begun.next;
}

of_item-grows : (before xs : List ConfigRecord) (item : Item) (i : Instance) → IsOfItem before item i →
    IsOfItem (before ++ xs) item i
of_item-grows before xs (Connector name) i o = o
of_item-grows before xs (Task id) i o =
    record {
      phase = o.phase;
      task = o.task;
      generation = any-append
          (IsCommitOf id.connector i.generation) before xs o.generation;
    }

-- ---- records with numbers

numbers-fit : (xs : List ConfigRecord) (end : ℕ) → end < 2 ^ 64 → AllByRecursion (λ r. r.stamp ≤ end) xs →
    list_all (λ (r : ConfigRecord). is_offset r.offset) xs ≡ true → AllByRecursion HasNumbers (map config_applied xs)
numbers-fit [] end short stamps fits = tt
numbers-fit (r ∷ xs) end short stamps fits =
    let offset : is_offset r.offset ≡ true = and-first (is_offset r.offset)
    (list_all (λ (q : ConfigRecord). is_offset q.offset) xs) fits in (
      record { offset = ltb-true r.offset (2 ^ 64) offset; stamp = omega (arith, stamps.0, short) },
      numbers-fit xs end short stamps.1 (and-second (is_offset r.offset)
          (list_all (λ (q : ConfigRecord). is_offset q.offset) xs) fits),
    )

-- a frame of records that may be written
pub record IsConfigFrame (s : Cluster) (records : List ConfigRecord) : Type 0 where
  pub allowed : AreAllowedConfigs s.configs records
  pub some : 1 ≤ length records
  pub stamps : AllByRecursion (λ r. r.stamp ≤ list_end s.entries) records
  pub fits : fits_configs records s ≡ true

-- producers that aren't fenced are of what the last fence stands for behind these records, too
pub record StaysFenced (s : Cluster) (records : List ConfigRecord) : Type 0 where
  pub generation : (n : ℕ) (id : TaskId) → IsUnfenced s n id →
      fenced_generation_of id.connector (s.configs ++ records) ≡ Some (instance_of n s).generation
  pub counted : (n : ℕ) (id : TaskId) → IsUnfenced s n id →
      id.index < fenced_count_of id.connector (s.configs ++ records)
  pub fenced : IsFenced (with_configs records s)

module _ (setting : Setting) (s : Cluster) (records : List ConfigRecord) (frame : IsConfigFrame s records)
    (f : AreFacts setting s) where
  abbrev t : Cluster
  t = with_configs records s

  room : has_room (config_length s) (frame_of (config_body records)) ≡ true
  room = and-second (list_all (λ (r : ConfigRecord). is_offset r.offset) records)
      (has_room (config_length s) (frame_of (config_body records))) frame.fits

  written : AreRecords (map config_applied records)
  written =
      let size : length (map config_applied records) ≡ length records = length-map records config_applied in
      records-written (map config_applied records) (config_length s) (omega (arith, size, frame.some)) room
      (numbers-fit records (list_end s.entries) (end-fits setting s f.logs) frame.stamps
      (and-first (list_all (λ (r : ConfigRecord). is_offset r.offset) records)
      (has_room (config_length s) (frame_of (config_body records))) frame.fits))

  stands : standing_configs t ≡ standing_configs s ++ records
  stands =
      ap (filter_map config_in) (joined-push s.config.frames (map config_applied records))
      ∙ filter_map-append config_in (joined s.config.frames) (map config_applied records)
      ∙ ap (λ (l : List ConfigRecord). standing_configs s ++ l) (configs-read s.configs records frame.allowed)

  logs : LogFacts setting t
  logs = record {
    configs_read = subst (AllByRecursion (λ (a : Applied). IsSome (config_in a)))
        (sym (joined-push s.config.frames (map config_applied records)))
        (each-append (λ (a : Applied). IsSome (config_in a)) (joined s.config.frames)
        (map config_applied records) f.logs.configs_read (each-read_again s.configs records frame.allowed));
    statuses_read = f.logs.statuses_read;
    configs = subst (λ (l : List ConfigRecord). ConfigFacts l (s.configs ++ records) s.entries) (sym stands)
        (config_facts-append (standing_configs s) s.configs s.entries records f.logs.configs frame.allowed frame.stamps);
    statuses = f.logs.statuses;
    entries = f.logs.entries;
    all_entries = f.logs.all_entries;
    offsets = f.logs.offsets;
    batches = f.logs.batches;
    agree = f.logs.agree;
    short = f.logs.short;
    disks = configs-fit records s frame.fits f.logs.disks;
    written = record {
      config = each-push AreRecords s.config.frames (map config_applied records) written f.logs.written.config;
      offsets = f.logs.written.offsets;
      status = f.logs.written.status;
      txn = f.logs.written.txn;
      batches = f.logs.written.batches;
    };
  }

  row_stays : (row : Row) → IsSoundRow s row → IsSoundRow t row
  row_stays row r = record {
    prefix = omega (arith, r.prefix, length-append s.configs records);
    lead = r.lead;
    fencing = begun-grows s.configs records row.fencing f.logs.configs.allowed frame.allowed r.fencing;
    round = r.round;
  }

  instance_stays : (i : Instance) → IsSoundInstance s i → IsSoundInstance t i
  instance_stays i h = record {
    at_worker = h.at_worker;
    named = h.named;
    of_item = of_item-grows s.configs records i.item i h.of_item;
    generation = omega (arith, h.generation, end-grows s.configs records);
    source = h.source;
    sink = h.sink;
    epoch = h.epoch;
    positions = h.positions;
    cut = h.cut;
    delivered = h.delivered;
    number = h.number;
  }

  rows : RowFacts t
  rows = record {
    few = f.rows.few;
    rows = each-weaker (IsSoundRow s) (IsSoundRow t) s.rows row_stays f.rows.rows;
    instances = each-weaker (IsSoundInstance s) (IsSoundInstance t) s.instances instance_stays f.rows.instances;
  }

  writes : (n : ℕ) (id : TaskId) (epoch : ℕ) → Writes t n id epoch → Writes s n id epoch
  writes n id epoch o = record {
    is_task = record { within = o.is_task.within; item = o.is_task.item };
    under = o.under;
  }

  unfenced : (n : ℕ) (id : TaskId) → IsUnfenced t n id → IsUnfenced s n id
  unfenced n id o = record { verified = o.verified; last = writes n id (last_epoch (producer.Task id) s) o.last }

  -- an instance of the newest generation behind these records was one before, and its task is the same
  newest_set : (n : ℕ) (id : TaskId) → IsNewest t n id → SameSet id.connector s.configs (s.configs ++ records)
  newest_set n id o =
      let sound : IsSoundInstance s (instance_of n s) =
      each-at (IsSoundInstance s) s.instances n no_instance o.is_task.within f.rows.instances in
      newest-set id.connector s.configs records (instance_of n s).generation
      (allowed-rises s.configs f.logs.configs.allowed) frame.allowed sound.generation o.newest

  newest : (n : ℕ) (id : TaskId) → IsNewest t n id → IsNewest s n id
  newest n id o = record {
    is_task = record { within = o.is_task.within; item = o.is_task.item };
    newest = sym (newest_set n id o).generation ∙ o.newest;
  }

  producers : StaysFenced s records → ProducerFacts setting t
  producers stays = record {
    generation = λ n id u. stays.generation n id (unfenced n id u);
    counted = λ n id u. stays.counted n id (unfenced n id u);
    positions = λ n id u. f.producers.positions n id (unfenced n id u);
    apart = λ m n a b ne u v. f.producers.apart m n a b ne (unfenced m a u) (unfenced n b v);
    task = λ n id u. same-spec id s.configs (s.configs ++ records) (newest_set n id u)
        ∙ f.producers.task n id (newest n id u);
    one_batch = λ n id epoch u. f.producers.one_batch n id epoch (writes n id epoch u);
    fencing = λ w n fencing id leads u. f.producers.fencing w n fencing id record {
      leads = leads.leads;
      keeps = leads.keeps;
    } (unfenced n id u);
    not_ahead = λ n id u. f.producers.not_ahead n id (newest n id u);
    apart_epochs = λ m n id epoch ne u v. f.producers.apart_epochs m n id epoch ne (writes m id epoch u)
        (writes n id epoch v);
    known_epochs = λ n id epoch u. f.producers.known_epochs n id epoch (writes n id epoch u);
    numbers = λ n id epoch u has. used-frame s t id epoch (batches_up_to (instance_of n s))
        (commits_up_to (instance_of n s)) (batches_up_to (instance_of n s)) (commits_up_to (instance_of n s)) refl refl
        (f.producers.numbers n id epoch (writes n id epoch u) has);
  }

  -- all facts stay behind these records
  pub configs-appended : StaysFenced s records → AreFacts setting t
  configs-appended stays =
      let same : StaysMember s t = record { rows = λ w. same_member (row_of w s); held = λ w x holds. holds } in
      record {
        safe = record {
          disjoint = disjoint-stays s t same f.safe.disjoint;
          fenced = stays.fenced;
          exact = exact-frame setting s t f.safe.exact;
          backed = backed-frame s t f.safe.backed;
        };
        group = group-stays s t same f.group;
        logs = logs;
        rows = rows;
        producers = producers stays;
        journal = journal-stays setting s t (grows-configs records s) f.journal;
      }
