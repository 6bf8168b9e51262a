-- A marker of how a transaction ended keeps all facts: it may stand behind the log, and is no batch.
use Rattle.std.proofs.Common.{◌≡◌, ℕ, ◌<◌, ◌++◌, ◌∷◌, [], ◌&&◌, ◌||◌, Bool, true, false, not, cond, nat_lt, List, Option, Some, None, IsSome, is_none, unwrap_or, map, refl, sym, subst, ap, ◌∙◌, arith}
use Rattle.std.proofs.lemmas.Bool.{or_right, or_left, not-true}
use Rattle.std.specs.List.{filter, filter_map, flat_map, find, list_any, AllByRecursion}
use Rattle.std.specs.Option.{option_or, option_map_or}
use Rattle.std.proofs.lemmas.List.{append-nil}
use Rattle.std.proofs.lemmas.List.Elements.{filter_map-append}
use Rattle.std.proofs.lemmas.Bool.Decides.{nat_tests}
use Rattle.cw_types.specs.declared.ids.Tag.{Tag}
use Rattle.cw_types.specs.declared.ids.PartKey.{PartKey}
use Rattle.cw_types.specs.declared.ids.Span.{Span}
use Rattle.cw_types.specs.declared.logs.LogName.{LogName}
use Rattle.cw_types.specs.declared.logs.LogName.TheVariants.{Config, Offsets, Status, Txn, Batches}
use Rattle.cw_types.specs.declared.verdict.Verdict.TheVariants.{Committed, Aborted, Open}
use Rattle.cw_types.specs.Verdict.{has_ended}
use Rattle.cw_types.specs.Same.{same_tag}
use Rattle.cw_types.proofs.SameLemmas.{same_tag-Decides}
use Rattle.cw_bytes.specs.Frames.{EachFrom}
use Rattle.cw_bytes.specs.Spelling.{IsTag}
use Rattle.cw_txn.specs.declared.entry.Entry.{Entry}
use Rattle.cw_txn.specs.declared.entry.Entry.TheVariants.{Bump, Commit, Set}
use Rattle.cw_txn.specs.Legal.{epoch_of, is_committed, verdict_of}
use Rattle.cw_txn.specs.History.{base_of}
use Rattle.cw_offset.specs.declared.body.OffsetEntry.{OffsetEntry}
use Rattle.cw_offset.specs.declared.body.OffsetEntry.TheVariants.{Records, Mark}
use Rattle.cw_offset.specs.Acceptance.{IsKnown, IsAllowedStored, AreAllowedStored}
use Rattle.cw_offset.specs.Body.{IsEntry as IsOffsetEntry}
use Rattle.cw_offset.specs.Log.{offset_tag, is_marked, first_unmarked}
use Rattle.cw_offset.proofs.Places.{first_unmarked_is}
use Rattle.cw_data.specs.declared.entry.Batch.{Batch}
use Rattle.cw_data.specs.declared.entry.DataEntry.{DataEntry}
use Rattle.cw_data.specs.declared.entry.DataEntry.TheVariants.{Batch as InBatch, Mark as DataMark}
use Rattle.cw_data.specs.Body.{IsEntry as IsDataEntry}
use Rattle.cw_data.specs.Log.{marker_of, tag_in, first_unmarked as first_unmarked_data}
use Rattle.cw_feed.specs.Yield.{Yield}
use Rattle.cw_model.specs.State.{Cluster, Setting}
use Rattle.cw_model.specs.Lookups.{row_of, instance_of, end_or_start}
use Rattle.cw_model.specs.Updates.{with_offset, with_data, fits_offset, fits_data}
use Rattle.cw_model.specs.Committed.{is_task, batch_in, batches_of, is_batch_of, tags_of, BatchAgrees}
use Rattle.cw_model.specs.Safe.{YieldsCommitted, HasBatch, HasBatches}
use Rattle.cw_model.specs.Allowed.{data_mark, IsAllowedData}
use Rattle.cw_model.specs.EventsMarking.{no_tag, marks, mark, MayMark, unmarked_in}
use Rattle.cw_model.specs.Facts.{AreFacts}
use Rattle.cw_model.specs.FactsLogs.{LogFacts}
use Rattle.cw_model.specs.FactsRows.{IsSoundRow, IsSoundInstance}
use Rattle.cw_model.specs.FactsProducers.{HasItsBatch, HasUsed, IsBelow, batches_up_to, commits_up_to, tag_in_hand}
use Rattle.cw_laws.proofs.Lists.{each-push, each-weaker, each_from-push}
use Rattle.cw_laws.proofs.Wrappers.{closed-keeps, offset-keeps, data-keeps}
use Rattle.cw_laws.proofs.Grows.{goes_on-same, grows-frame, journal-stays}
use Rattle.cw_laws.proofs.Disks.{and-first, and-second, offset-fits, data-fits}
use Rattle.cw_laws.proofs.Rows.{same_member, group-stays}
use Rattle.cw_laws.proofs.Sound.{HasMore, sound_row-grows, sound_instance-grows}
use Rattle.cw_laws.proofs.AtInstance.{InstanceFacts, PairFacts, facts_of_one, facts_of_two, facts_of_all, writes-frame, unfenced-frame, newest-frame, pair-frame}
use Rattle.cw_laws.proofs.Relog.{relog}

-- ---- the transaction that is found

-- what is found passes, and is there
pub record IsFound (p : Tag → Bool) (tags : List Tag) (tag : Tag) : Type 0 where
  pub passes : p tag ≡ true
  pub there : list_any (same_tag tag) tags ≡ true

found : (p : Tag → Bool) (tags : List Tag) (tag : Tag) → find p tags ≡ Some tag → IsFound p tags tag
found p [] tag is = absurd (cc)
found p (x ∷ tags) tag is = by (p x) refl is (found p tags tag)
  where
    by : (b : Bool) → p x ≡ b → cond b (Some x) (find p tags) ≡ Some tag → (find p tags ≡ Some tag → IsFound p tags tag) → IsFound p (x ∷ tags) tag
    by true passes is behind =
        let same : x ≡ tag = cc in
        subst (IsFound p (x ∷ tags)) same (record { passes = passes; there = or_left (same_tag x x) (list_any (same_tag x) tags) ((same_tag-Decides x x).1 refl) })
    by false fails is behind =
        let later : IsFound p tags tag = behind is in
        record { passes = later.passes; there = or_right (same_tag tag x) (list_any (same_tag tag) tags) later.there }

-- what each of some transactions has, one that is there has
there-each : (P : Tag → Type 0) (tag : Tag) (tags : List Tag) → list_any (same_tag tag) tags ≡ true → AllByRecursion P tags → P tag
there-each P tag [] there each = absurd (cc)
there-each P tag (x ∷ tags) there each = by (same_tag tag x) refl there (λ later. there-each P tag tags later each.1)
  where
    by : (b : Bool) → same_tag tag x ≡ b → (b || list_any (same_tag tag) tags) ≡ true → (list_any (same_tag tag) tags ≡ true → P tag) → P tag
    by true same there behind = subst P (sym ((same_tag-Decides tag x).0 same)) each.0
    by false other there behind = behind there

is_found : (o : Option Tag) → IsSome o → o ≡ Some (unwrap_or o no_tag)
is_found None some = absurd (cc)
is_found (Some tag) some = refl

-- one that has ended and isn't committed is aborted: its producer has a later epoch
ended-later : (entries : List Entry) (tag : Tag) → has_ended (verdict_of entries tag) ≡ true → is_committed tag entries ≡ false → tag.epoch.0 < epoch_of tag.tid entries
ended-later entries tag ended not_committed = by (nat_lt tag.epoch.0 (epoch_of tag.tid entries)) refl
    (subst (λ (b : Bool). has_ended (cond b Committed (cond (nat_lt tag.epoch.0 (epoch_of tag.tid entries)) Aborted Open)) ≡ true) not_committed ended)
  where
    by : (b : Bool) → nat_lt tag.epoch.0 (epoch_of tag.tid entries) ≡ b → has_ended (cond b Aborted Open) ≡ true → tag.epoch.0 < epoch_of tag.tid entries
    by true less ended = grind (arith, nat_tests)
    by false less ended = absurd (cc)

-- ---- the offset log

stored-known : (entries : List Entry) (before log : List OffsetEntry) → EachFrom (IsAllowedStored entries) before log → AllByRecursion (IsKnown entries) (filter_map offset_tag log)
stored-known entries before [] each = tt
stored-known entries before (Records tag records ∷ log) each = (each.0.known, stored-known entries (before ++ Records tag records ∷ []) log each.1)
stored-known entries before (Mark mark ∷ log) each = stored-known entries (before ++ Mark mark ∷ []) log each.1

stored-tags : (log : List OffsetEntry) → AllByRecursion IsOffsetEntry log → AllByRecursion IsTag (filter_map offset_tag log)
stored-tags [] each = tt
stored-tags (Records tag records ∷ log) each = (each.0.0, stored-tags log each.1)
stored-tags (Mark mark ∷ log) each = stored-tags log each.1

abbrev offset_marker : Tag → List Entry → OffsetEntry
offset_marker tag entries = Mark (record { tag = tag; committed = is_committed tag entries })

module _ (setting : Setting) (s : Cluster) (tag : Tag) (is : first_unmarked (verdict_of s.entries) s.offsets.frames ≡ Some tag) where
  abbrev offset_test : Tag → Bool
  offset_test t = not (is_marked t s.offsets.frames) && has_ended (verdict_of s.entries t)

  marks-offset : IsFound offset_test (filter_map offset_tag s.offsets.frames) tag
  marks-offset = found offset_test (filter_map offset_tag s.offsets.frames) tag (sym (first_unmarked_is s.offsets.frames (verdict_of s.entries)) ∙ is)

  pub offset-allowed : AreAllowedStored s.entries s.offsets.frames → IsAllowedStored s.entries s.offsets.frames (offset_marker tag s.entries)
  offset-allowed each = record {
    known = there-each (IsKnown s.entries) tag (filter_map offset_tag s.offsets.frames) marks-offset.there (stored-known s.entries [] s.offsets.frames each);
    stands = marks-offset.there;
    first = not-true (is_marked tag s.offsets.frames) (and-first (not (is_marked tag s.offsets.frames)) (has_ended (verdict_of s.entries tag)) marks-offset.passes);
    tells = refl;
    ended = ended-later s.entries tag (and-second (not (is_marked tag s.offsets.frames)) (has_ended (verdict_of s.entries tag)) marks-offset.passes);
  }

  logs-offset-mark : fits_offset (offset_marker tag s.entries) s ≡ true → LogFacts setting s → LogFacts setting (with_offset (offset_marker tag s.entries) s)
  logs-offset-mark room f = record {
    configs_read = f.configs_read;
    statuses_read = f.statuses_read;
    configs = f.configs;
    statuses = f.statuses;
    entries = f.entries;
    all_entries = f.all_entries;
    offsets = each_from-push (IsAllowedStored s.entries) [] s.offsets.frames (offset_marker tag s.entries) f.offsets (offset-allowed f.offsets);
    batches = f.batches;
    agree = f.agree;
    short = f.short;
    disks = offset-fits (offset_marker tag s.entries) s room f.disks;
    written = record {
      config = f.written.config;
      offsets = each-push IsOffsetEntry s.offsets.frames (offset_marker tag s.entries) (there-each IsTag tag (filter_map offset_tag s.offsets.frames) marks-offset.there (stored-tags s.offsets.frames f.written.offsets)) f.written.offsets;
      status = f.written.status;
      txn = f.written.txn;
      batches = f.written.batches;
    };
  }

  pub mark-offset : fits_offset (offset_marker tag s.entries) s ≡ true → AreFacts setting s → AreFacts setting (with_offset (offset_marker tag s.entries) s)
  mark-offset room f = relog setting s (with_offset (offset_marker tag s.entries) s) (goes_on-same s.statuses) (λ closed. closed) (logs-offset-mark room f.logs) f

-- ---- a data log with the same batches

module _ (setting : Setting) (s : Cluster) (log : List DataEntry) (same : batches_of log ≡ batches_of s.batches) where
  abbrev t : Cluster
  t = record s { batches = log }

  rebatched-one : (n : ℕ) → InstanceFacts setting s n → InstanceFacts setting t n
  rebatched-one n f = record {
    generation = λ id u. f.generation id (unfenced-frame s t n id u);
    counted = λ id u. f.counted id (unfenced-frame s t n id u);
    positions = λ id u. f.positions id (unfenced-frame s t n id u);
    task = λ id u. f.task id (newest-frame s t n id u);
    one_batch = λ id epoch u opened.
        subst (λ bs. HasItsBatch setting.feeds bs (tag_in_hand id epoch (instance_of n s)) (instance_of n s)) (sym same) (f.one_batch id epoch (writes-frame s t n id epoch u) opened);
    fencing = λ w fencing id leads u. f.fencing w fencing id (record { leads = leads.leads; keeps = leads.keeps }) (unfenced-frame s t n id u);
    not_ahead = λ id u. f.not_ahead id (newest-frame s t n id u);
    known_epochs = λ id epoch u. f.known_epochs id epoch (writes-frame s t n id epoch u);
    numbers = λ id epoch u has.
        let used : HasUsed s id epoch (batches_up_to (instance_of n s)) (commits_up_to (instance_of n s)) = f.numbers id epoch (writes-frame s t n id epoch u) has in
        record {
          batches = subst (λ bs. AllByRecursion (IsBelow id epoch (batches_up_to (instance_of n s))) (map (λ (b : Batch). b.tag) bs)) (sym same) used.batches;
          commits = used.commits;
        };
  }

  rebatched-two : (m n : ℕ) → PairFacts s m n → PairFacts t m n
  rebatched-two m n f = pair-frame s t m n f

  -- what is committed of a part, by the batches
  abbrev committed_of : PartKey → List Batch → List (List ℕ)
  committed_of part bs = flat_map (λ tag. option_map_or (λ (b : Batch). b.values) (find (is_batch_of tag part) bs) []) (tags_of part s.entries)

  yields-rebatched : (part : PartKey) → YieldsCommitted setting s part → YieldsCommitted setting t part
  yields-rebatched part yields =
      subst (λ bs. Yield setting.feeds part (base_of part s.entries) (end_or_start part s.entries) (committed_of part bs)) (sym same) yields

  batch-rebatched : (tag : Tag) (span : Span) → HasBatch s.batches tag span → HasBatch log tag span
  batch-rebatched tag span has = record {
    batch = has.batch;
    only = ap (filter (is_batch_of tag span.part)) same ∙ has.only;
    begins = has.begins;
    ends = has.ends;
  }

  backed-rebatched : (entry : Entry) → HasBatches s.batches entry → HasBatches log entry
  backed-rebatched (Bump tid) has = tt
  backed-rebatched (Commit tag generation spans) has = λ task. each-weaker (HasBatch s.batches tag) (HasBatch log tag) spans (batch-rebatched tag) (has task)
  backed-rebatched (Set tid epoch list) has = tt

  pub rebatched : LogFacts setting t → AreFacts setting s → AreFacts setting t
  rebatched logs f =
      let more : HasMore s t = record { rows = omega arith; epochs = omega arith; entries = omega arith } in
      record {
        safe = record {
          disjoint = f.safe.disjoint;
          fenced = f.safe.fenced;
          exact = record { chains = f.safe.exact.chains; yields = λ agreed part source. yields-rebatched part (f.safe.exact.yields agreed part source) };
          backed = record { legal = f.safe.backed.legal; batches = each-weaker (HasBatches s.batches) (HasBatches log) s.entries backed-rebatched f.safe.backed.batches };
        };
        group = group-stays s t record { rows = λ w. same_member (row_of w s); held = λ w x holds. holds } f.group;
        logs = logs;
        rows = record {
          few = f.rows.few;
          rows = each-weaker (IsSoundRow s) (IsSoundRow t) s.rows (sound_row-grows s t more) f.rows.rows;
          instances = each-weaker (IsSoundInstance s) (IsSoundInstance t) s.instances (sound_instance-grows s t more) f.rows.instances;
        };
        producers = facts_of_all setting t (λ n. rebatched-one n (facts_of_one setting s f.producers n)) (λ m n ne. rebatched-two m n (facts_of_two setting s f.producers m n ne));
        journal = journal-stays setting s t (grows-frame s t (λ w. omega arith)) f.journal;
      }

-- ---- the data log

data-known : (entries : List Entry) (before log : List DataEntry) → EachFrom (IsAllowedData entries) before log → AllByRecursion (IsKnown entries) (filter_map tag_in log)
data-known entries before [] each = tt
data-known entries before (InBatch batch ∷ log) each = (each.0.known, data-known entries (before ++ InBatch batch ∷ []) log each.1)
data-known entries before (DataMark tag committed ∷ log) each = data-known entries (before ++ DataMark tag committed ∷ []) log each.1

data-tags : (log : List DataEntry) → AllByRecursion IsDataEntry log → AllByRecursion IsTag (filter_map tag_in log)
data-tags [] each = tt
data-tags (InBatch batch ∷ log) each = (each.0.0, data-tags log each.1)
data-tags (DataMark tag committed ∷ log) each = data-tags log each.1

-- a transaction has a marker just where it is marked
marker-marked : (tag : Tag) (log : List DataEntry) → is_none (marker_of tag log) ≡ not (list_any (same_tag tag) (filter_map data_mark log))
marker-marked tag [] = refl
marker-marked tag (InBatch batch ∷ log) = marker-marked tag log
marker-marked tag (DataMark other committed ∷ log) = by (same_tag tag other) (marker-marked tag log)
  where
    by : (b : Bool) → is_none (marker_of tag log) ≡ not (list_any (same_tag tag) (filter_map data_mark log))
        → is_none (option_or (cond b (Some committed) None) (marker_of tag log)) ≡ not (b || list_any (same_tag tag) (filter_map data_mark log))
    by true rest = refl
    by false rest = rest

module _ (setting : Setting) (s : Cluster) (tag : Tag) (is : first_unmarked_data (verdict_of s.entries) s.batches ≡ Some tag) where
  abbrev data_marker : DataEntry
  data_marker = DataMark tag (is_committed tag s.entries)

  abbrev data_test : Tag → Bool
  data_test t = is_none (marker_of t s.batches) && has_ended (verdict_of s.entries t)

  marks-data : IsFound data_test (filter_map tag_in s.batches) tag
  marks-data = found data_test (filter_map tag_in s.batches) tag is

  pub data-allowed : EachFrom (IsAllowedData s.entries) [] s.batches → IsAllowedData s.entries s.batches data_marker
  data-allowed each = record {
    known = there-each (IsKnown s.entries) tag (filter_map tag_in s.batches) marks-data.there (data-known s.entries [] s.batches each);
    stands = marks-data.there;
    first = not-true (list_any (same_tag tag) (filter_map data_mark s.batches))
        (sym (marker-marked tag s.batches) ∙ and-first (is_none (marker_of tag s.batches)) (has_ended (verdict_of s.entries tag)) marks-data.passes);
    tells = refl;
    ended = ended-later s.entries tag (and-second (is_none (marker_of tag s.batches)) (has_ended (verdict_of s.entries tag)) marks-data.passes);
  }

  same-batches : batches_of (s.batches ++ data_marker ∷ []) ≡ batches_of s.batches
  same-batches = filter_map-append batch_in s.batches (data_marker ∷ []) ∙ append-nil (batches_of s.batches)

  logs-data-mark : fits_data data_marker s ≡ true → LogFacts setting s → LogFacts setting (with_data data_marker s)
  logs-data-mark room f = record {
    configs_read = f.configs_read;
    statuses_read = f.statuses_read;
    configs = f.configs;
    statuses = f.statuses;
    entries = f.entries;
    all_entries = f.all_entries;
    offsets = f.offsets;
    batches = each_from-push (IsAllowedData s.entries) [] s.batches data_marker f.batches (data-allowed f.batches);
    agree = λ agreed.
        subst (λ bs. AllByRecursion (λ (batch : Batch). is_task batch.tag.tid ≡ true → BatchAgrees setting.feeds s.entries batch) bs) (sym same-batches) (f.agree agreed);
    short = f.short;
    disks = data-fits data_marker s room f.disks;
    written = record {
      config = f.written.config;
      offsets = f.written.offsets;
      status = f.written.status;
      txn = f.written.txn;
      batches = each-push IsDataEntry s.batches data_marker (there-each IsTag tag (filter_map tag_in s.batches) marks-data.there (data-tags s.batches f.written.batches)) f.written.batches;
    };
  }

  pub mark-data : fits_data data_marker s ≡ true → AreFacts setting s → AreFacts setting (with_data data_marker s)
  mark-data room f = rebatched setting s (s.batches ++ data_marker ∷ []) same-batches (logs-data-mark room f.logs) f

-- ---- the event

marks-keep : (setting : Setting) (log : LogName) (s : Cluster) (tag : Tag) → unmarked_in log s ≡ Some tag → AreFacts setting s → AreFacts setting (marks log tag (is_committed tag s.entries) s).1
marks-keep setting Config s tag is f = absurd (cc)
marks-keep setting Offsets s tag is f =
    offset-keeps (AreFacts setting) s (offset_marker tag s.entries) (with_offset (offset_marker tag s.entries) s) (tag, is_committed tag s.entries) f (λ room. mark-offset setting s tag is room f)
marks-keep setting Status s tag is f = absurd (cc)
marks-keep setting Txn s tag is f = absurd (cc)
marks-keep setting Batches s tag is f =
    data-keeps (AreFacts setting) s (DataMark tag (is_committed tag s.entries)) (with_data (DataMark tag (is_committed tag s.entries)) s) (tag, is_committed tag s.entries) f (λ room. mark-data setting s tag is room f)

pub mark-keeps : (setting : Setting) (log : LogName) (s : Cluster) → MayMark log s → AreFacts setting s → AreFacts setting (mark log s).1
mark-keeps setting log s may f =
    let tag : Tag = unwrap_or (unmarked_in log s) no_tag in
    closed-keeps (AreFacts setting) s s.closed (marks log tag (is_committed tag s.entries) s) f (marks-keep setting log s tag (is_found (unmarked_in log s) may) f)
