-- A task that writes the offset behind its records, in the same transaction, keeps all facts.
use Rattle.std.proofs.Common.{◌≡◌, ℕ, ◌+◌, ◌<◌, ◌^◌, ◌++◌, ◌∷◌, [], Bool, true, false, List, Option, Some, IsSome, is_some, length, slice_get, refl, sym, ap, subst, ◌∙◌, arith, length-append}
use Rattle.std.specs.Option.{IsSomeAnd}
use Rattle.std.specs.List.{AllByRecursion, filter_map, list_any, list_all}
use Rattle.std.proofs.lemmas.Bool.{ltb-true, leb-true, le-leb, or_from, false_from_ne_true}
use Rattle.cw_types.specs.declared.ids.Tid.TheVariants as producer
use Rattle.cw_types.specs.declared.ids.Tag.{Tag}
use Rattle.cw_types.specs.declared.ids.TaskId.{TaskId}
use Rattle.cw_types.specs.declared.ids.Item.{Item}
use Rattle.cw_types.specs.declared.ids.Item.TheVariants.{Connector, Task}
use Rattle.cw_types.specs.declared.ids.PartKey.{PartKey}
use Rattle.cw_types.specs.declared.ids.PartKey.TheVariants.{Raw, File, Seq, Sink}
use Rattle.cw_types.specs.declared.ids.Span.{Span}
use Rattle.cw_types.specs.Same.{same_tag}
use Rattle.cw_types.proofs.SameLemmas.{same_tag-Decides}
use Rattle.cw_bytes.specs.declared.applied.Applied.{Applied}
use Rattle.cw_bytes.specs.Spelling.{IsPart, tag_bytes, records_bytes}
use Rattle.cw_bytes.specs.Frames.{EachFrom}
use Rattle.cw_keys.specs.Parts.{part_text, is_raw, IsPart as IsKeyPart}
use Rattle.cw_keys.specs.Offsets.{offset_of, offset_text}
use Rattle.cw_keys.proofs.PartKeys.{part_again}
use Rattle.cw_keys.proofs.Values.{offset_law}
use Rattle.cw_config.specs.declared.records.ConfigRecord.{ConfigRecord}
use Rattle.cw_offset.specs.declared.body.OffsetEntry.{OffsetEntry}
use Rattle.cw_offset.specs.declared.body.OffsetEntry.TheVariants.{Records, Mark}
use Rattle.cw_offset.specs.Body.{IsEntry as IsOffsetEntry, entry_bytes as offset_body}
use Rattle.cw_offset.specs.Log.{offset_mark, is_marked}
use Rattle.cw_offset.specs.Acceptance.{IsAllowedMark, IsOffsetOf, IsAllowedStored}
use Rattle.cw_txn.specs.declared.entry.Entry.{Entry}
use Rattle.cw_txn.specs.Allowed.{IsSourceOf}
use Rattle.cw_txn.specs.Legal.{epoch_of, is_committed}
use Rattle.cw_txn.proofs.Walks.{epoch_of_le}
use Rattle.cw_model.specs.declared.instance.Instance.{Instance}
use Rattle.cw_model.specs.declared.instance.InstancePhase.TheVariants as phase
use Rattle.cw_model.specs.State.{Setting, Cluster}
use Rattle.cw_model.specs.Phases.{is_ended, is_working, is_verified}
use Rattle.cw_model.specs.Lookups.{instance_of, no_instance, last_epoch, list_end}
use Rattle.cw_model.specs.Updates.{changes_instance, in_phase, with_offset, fits_offset, is_offset, next_offset}
use Rattle.cw_model.specs.Bodies.{offsets_length, frame_of, has_room}
use Rattle.cw_model.specs.Tasks.{count_of, tag_of, span_of}
use Rattle.cw_model.specs.EventsSources.{put_offsets, MayPutOffsets, offset_record}
use Rattle.cw_model.specs.Committed.{batches_of}
use Rattle.cw_model.specs.Facts.{AreFacts}
use Rattle.cw_model.specs.FactsLogs.{LogFacts}
use Rattle.cw_model.specs.FactsRows.{IsSoundInstance, IsOfItem}
use Rattle.cw_model.specs.FactsProducers.{IsBelow, HasItsBatch, commit_tags, commits_up_to, batches_up_to, tag_in_hand}
use Rattle.cw_laws.proofs.Wrappers.{instance-keeps, offset-keeps, producer-keeps}
use Rattle.cw_laws.proofs.Lists.{each-at, each-push, each_from-push}
use Rattle.cw_laws.proofs.Disks.{and-first, and-second, offset-fits}
use Rattle.cw_laws.proofs.Grows.{goes_on-same}
use Rattle.cw_laws.proofs.Relog.{relog}
use Rattle.cw_laws.proofs.Init.{lives-within}
use Rattle.cw_laws.proofs.AtInstance.{InstanceFacts, facts_of_one, used-frame, its_batch-frame}
use Rattle.cw_laws.proofs.Changed.{change-keeps, reads-change, SameProducer, own_writes, own_unfenced, own_newest, pairs-follow}
use Rattle.cw_laws.proofs.Written.{records-written, list-short}
use Rattle.cw_laws.proofs.Numbers.{end_place-fits}
use Rattle.cw_laws.proofs.Ends.{each-get}
use Rattle.cw_laws.proofs.Below.{own_tag, not_committed}
use Rattle.cw_laws.proofs.AtWork.{IsAtWork, at-work, verified-has, tag_of-is, spec-get, spec-source, spec-count}
use Rattle.cw_laws.proofs.InHand.{span-is}

-- ---- a transaction that isn't marked

-- a marker of an open transaction under its producer's last epoch isn't allowed
module _ (entries : List Entry) (tag : Tag) (last : tag.epoch.0 ≡ epoch_of tag.tid entries) (new : is_committed tag entries ≡ false) where
  no_mark : (there marked : List Tag) (other : Tag) (committed : Bool) → IsAllowedMark entries there marked other committed → same_tag tag other ≡ true → ⊥
  no_mark there marked other committed f same =
      let one : tag ≡ other = (same_tag-Decides tag other).0 same in
      let aborted : committed ≡ false = f.tells ∙ ap (λ (t : Tag). is_committed t entries) (sym one) ∙ new in
      let older : tag.epoch.0 < epoch_of tag.tid entries = subst (λ (t : Tag). t.epoch.0 < epoch_of t.tid entries) (sym one) (f.ended aborted) in
      omega arith

  pub unmarked : (before log : List OffsetEntry) → EachFrom (IsAllowedStored entries) before log → is_marked tag log ≡ false
  unmarked before [] each = refl
  unmarked before (Records other records ∷ log) each = unmarked (before ++ Records other records ∷ []) log each.1
  unmarked before (Mark mark ∷ log) each = or_from (same_tag tag mark.tag) (list_any (same_tag tag) (filter_map offset_mark log))
      (false_from_ne_true (same_tag tag mark.tag) (no_mark _ _ mark.tag mark.committed each.0)) (unmarked (before ++ Mark mark ∷ []) log each.1)

-- ---- the record

-- a source's part has a key
record HasKey (part : PartKey) : Type 0 where
  named : IsKeyPart part
  plain : is_raw part ≡ false

has_key : (connector : List ℕ) (part : PartKey) → IsSourceOf connector part → IsPart part → HasKey part
has_key connector (File a feed) own named = record { named = named; plain = refl }
has_key connector (Seq a index) own named = record { named = named; plain = refl }
has_key connector (Raw n) own named = absurd own
has_key connector (Sink a topic) own named = absurd own

offset-told : (part : PartKey) (to : ℕ) → HasKey part → to < 2 ^ 64 → IsOffsetOf (part_text part) (Some (offset_text part to))
offset-told part to key fits = subst (λ (o : Option PartKey). IsSomeAnd o (λ p. IsSome (offset_of p (offset_text part to)))) (sym (part_again part key.named key.plain))
    (ap is_some (offset_law part to fits))

-- ---- one entry more in the offset log

module _ (setting : Setting) (entry : OffsetEntry) (s : Cluster) (allowed : IsAllowedStored s.entries s.offsets.frames entry) (written : IsOffsetEntry entry) (room : fits_offset entry s ≡ true) where
  abbrev grown : Cluster
  grown = with_offset entry s

  logs-offset : LogFacts setting s → LogFacts setting grown
  logs-offset f = record {
    configs_read = f.configs_read;
    statuses_read = f.statuses_read;
    configs = f.configs;
    statuses = f.statuses;
    entries = f.entries;
    all_entries = f.all_entries;
    offsets = each_from-push (IsAllowedStored s.entries) [] s.offsets.frames entry f.offsets allowed;
    batches = f.batches;
    agree = f.agree;
    short = f.short;
    disks = offset-fits entry s room f.disks;
    written = record {
      config = f.written.config;
      offsets = each-push IsOffsetEntry s.offsets.frames entry written f.written.offsets;
      status = f.written.status;
      txn = f.written.txn;
      batches = f.written.batches;
    };
  }

  pub offset-stays : AreFacts setting s → AreFacts setting grown
  offset-stays f = relog setting s grown (goes_on-same s.statuses) (λ closed. closed) (logs-offset f.logs) f

-- ---- the event

of_item-offered : (records : List ConfigRecord) (item : Item) (j : Instance) → is_working j.phase ≡ true → IsOfItem records item j → IsOfItem records item (in_phase phase.Offered j)
of_item-offered records (Connector name) j works o = absurd (let idle : is_working j.phase ≡ false = o.idle in cc)
of_item-offered records (Task id) j works o = record { phase = λ e. cc; task = o.task; generation = o.generation }

module _ (setting : Setting) (i : ℕ) (s : Cluster) (id : TaskId) (w : IsAtWork s i id) (may : MayPutOffsets i s) (f : AreFacts setting s)
    (room : fits_offset (Records (tag_of (instance_of i s)) (offset_record (span_of (instance_of i s)) s ∷ [])) s ≡ true) where
  abbrev own : Instance
  own = instance_of i s

  abbrev entry : OffsetEntry
  entry = Records (tag_of own) (offset_record (span_of own) s ∷ [])

  abbrev mid : Cluster
  mid = with_offset entry s

  abbrev change : Instance → Instance
  change = in_phase phase.Offered

  abbrev u : Cluster
  u = changes_instance i change mid

  abbrev epoch : ℕ
  epoch = last_epoch (producer.Task id) s

  abbrev tag : Tag
  tag = own_tag id epoch own.number

  within : i < length s.instances
  within = w.unfenced.last.is_task.within

  sound : IsSoundInstance s own
  sound = each-at (IsSoundInstance s) s.instances i no_instance within f.rows.instances

  its : HasItsBatch setting.feeds (batches_of s.batches) tag own
  its = f.producers.one_batch i id epoch w.unfenced.last (rw may refl)

  few : list_end s.entries + 17 < 2 ^ 64
  few = list-short setting s f.logs

  part-there : slice_get w.task.spec.parts its.cut.turn ≡ Some its.batch.part
  part-there = spec-get id own w.task its.cut.turn its.batch.part its.part

  named : IsPart its.batch.part
  named = each-get IsPart w.task.spec.parts its.cut.turn its.batch.part part-there (w.task.is.named w.name)

  key : HasKey its.batch.part
  key = has_key id.connector its.batch.part
      (each-get (IsSourceOf id.connector) w.task.spec.parts its.cut.turn its.batch.part part-there (w.task.is.source (spec-source id own w.task (sound.source (rw may refl))))) named

  to-fits : its.batch.to < 2 ^ 64
  to-fits = end_place-fits setting.feeds its.batch.part (count_of own) its.batch.to f.logs.short (spec-count id own w.task) its.whole

  commits-below : AllByRecursion (IsBelow id epoch own.number) (commit_tags s)
  commits-below = subst (λ (n : ℕ). AllByRecursion (IsBelow id epoch n) (commit_tags s)) (up-to own may) (f.producers.numbers i id epoch w.unfenced.last (verified-has own.phase w.unfenced.verified)).commits where
    up-to : (j : Instance) → j.phase ≡ phase.Produced → commits_up_to j ≡ j.number
    up-to j is = rw is refl

  -- the entry, told by the batch
  abbrev batch_span : Span
  batch_span = record { part = its.batch.part; from = its.batch.from; to = its.batch.to }

  abbrev told : OffsetEntry
  told = Records tag (offset_record batch_span s ∷ [])

  entry-is : entry ≡ told
  entry-is =
      ap (λ (t : Tag). Records t (offset_record (span_of own) s ∷ [])) (tag_of-is s i id epoch w.unfenced.last)
      ∙ ap (λ (sp : Span). Records tag (offset_record sp s ∷ [])) (span-is setting.feeds (batches_of s.batches) tag own its)

  allowed : IsAllowedStored s.entries s.offsets.frames entry
  allowed = subst (λ (e : OffsetEntry). IsAllowedStored s.entries s.offsets.frames e) (sym entry-is) record {
    known = omega arith;
    unmarked = unmarked s.entries tag refl (not_committed id epoch own.number s.entries commits-below) [] s.offsets.frames f.logs.offsets;
    each = (record { above = omega arith; grammar = offset-told its.batch.part its.batch.to key to-fits }, tt);
  }

  fits : fits_offset told s ≡ true
  fits = subst (λ (e : OffsetEntry). fits_offset e s ≡ true) entry-is room

  abbrev records : List Applied
  records = offset_record batch_span s ∷ []

  -- there is room for the records alone, too
  roomy : has_room (offsets_length s) (frame_of (records_bytes records)) ≡ true
  roomy =
      let all : has_room (offsets_length s) (frame_of (offset_body told)) ≡ true =
      and-second (list_all (λ (r : Applied). is_offset r.offset) records) (has_room (offsets_length s) (frame_of (offset_body told))) fits in
      le-leb (offsets_length s + (length (records_bytes records) + 5)) (2 ^ 28)
      (omega (arith, leb-true (offsets_length s + (length (offset_body told) + 5)) (2 ^ 28) all, length-append (tag_bytes tag) (records_bytes records)))

  offset-small : next_offset s < 2 ^ 64
  offset-small = ltb-true (next_offset s) (2 ^ 64) (and-first (is_offset (next_offset s)) true
      (and-first (list_all (λ (r : Applied). is_offset r.offset) records) (has_room (offsets_length s) (frame_of (offset_body told))) fits))

  written : IsOffsetEntry entry
  written = subst IsOffsetEntry (sym entry-is) (
    ((w.name, w.index), omega (arith, epoch_of_le (producer.Task id) s.entries, few), omega (arith, sound.number, few)),
    records-written records (offsets_length s) (omega arith) roomy (record { offset = offset-small; stamp = omega (arith, few) }, tt),
  )

  g : AreFacts setting mid
  g = offset-stays setting entry s allowed written room f

  same : SameProducer own (change own)
  same = record { item = refl; epoch = refl; generation = refl; task = refl }

  reads : instance_of i u ≡ change own
  reads = reads-change i change mid within

  verified : is_verified (change own).phase ≡ true → is_verified own.phase ≡ true
  verified _ = w.unfenced.verified

  own-facts : InstanceFacts setting u i
  own-facts =
      let old : InstanceFacts setting mid i = facts_of_one setting mid g.producers i in
      let unfenced = own_unfenced setting i change mid within same verified in
      let writes = own_writes setting i change mid within same verified in
      let newest = own_newest setting i change mid within same verified in
      record {
        generation = λ id' x. rw reads (old.generation id' (unfenced id' x));
        counted = λ id' x. old.counted id' (unfenced id' x);
        positions = λ id' x at. rw reads (old.positions id' (unfenced id' x) (rw may refl));
        task = λ id' x. rw reads (old.task id' (newest id' x));
        one_batch = λ id' epoch' x opened. subst (λ (k : Instance). HasItsBatch setting.feeds (batches_of s.batches) (tag_in_hand id' epoch' k) k) (sym reads)
            (its_batch-frame setting.feeds (batches_of s.batches) (tag_in_hand id' epoch' own) own (change own) (old.one_batch id' epoch' (writes id' epoch' x) (rw may refl)));
        fencing = λ v fence id' leads x equal older. old.fencing v fence id' (record { leads = leads.leads; keeps = leads.keeps }) (unfenced id' x) equal
            (subst (λ (k : Instance). k.generation < fence.generation) reads older);
        not_ahead = λ id' x. rw reads (old.not_ahead id' (newest id' x));
        known_epochs = λ id' epoch' x. old.known_epochs id' epoch' (writes id' epoch' x);
        numbers = λ id' epoch' x has. used-frame mid u id' epoch' (batches_up_to own) (commits_up_to own) (batches_up_to (instance_of i u)) (commits_up_to (instance_of i u))
            (rw (reads, may) refl) (rw (reads, may) refl) (old.numbers id' epoch' (writes id' epoch' x) (rw may refl));
      }

  sound-offered : IsSoundInstance mid own → IsSoundInstance mid (change own)
  sound-offered h = record {
    at_worker = h.at_worker;
    named = h.named;
    of_item = of_item-offered s.configs own.item own (rw may refl) h.of_item;
    generation = h.generation;
    source = λ is. h.source (rw may refl);
    sink = λ is. absurd (cc);
    epoch = λ is. h.epoch (verified-has own.phase w.unfenced.verified);
    positions = λ is. h.positions (rw may refl);
    cut = λ is. h.cut (rw may refl);
    delivered = λ is. absurd (cc);
    number = h.number;
  }

  pub put_offsets-done : AreFacts setting u
  put_offsets-done = change-keeps setting i change mid
      record { worker = refl; item = refl; ended = λ over. let lasts : is_ended own.phase ≡ false = rw may refl in absurd (cc) }
      (sound-offered (each-at (IsSoundInstance mid) mid.instances i no_instance within g.rows.instances))
      own-facts
      (pairs-follow setting i change mid within same verified g.producers)
      g

pub put_offsets-keeps : (setting : Setting) (i : ℕ) (s : Cluster) → MayPutOffsets i s → AreFacts setting s → AreFacts setting (put_offsets i s).1
put_offsets-keeps setting i s may f = instance-keeps (AreFacts setting) i s _ f (λ lives. producer-keeps (AreFacts setting) i s _ f (λ current.
    offset-keeps (AreFacts setting) s (Records (tag_of (instance_of i s)) (offset_record (span_of (instance_of i s)) s ∷ [])) _ _ f (λ room.
    done (at-work s i (lives-within i s lives) (each-at (IsSoundInstance s) s.instances i no_instance (lives-within i s lives) f.rows.instances) (rw may refl) current) room)))
  where
    done : ((id : TaskId) × IsAtWork s i id) → fits_offset (Records (tag_of (instance_of i s)) (offset_record (span_of (instance_of i s)) s ∷ [])) s ≡ true →
        AreFacts setting (changes_instance i (in_phase phase.Offered) (with_offset (Records (tag_of (instance_of i s)) (offset_record (span_of (instance_of i s)) s ∷ [])) s))
    done w room = put_offsets-done setting i s w.0 w.1 may f room
