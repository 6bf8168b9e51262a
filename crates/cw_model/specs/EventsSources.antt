-- The steps of a source task (KIP-618): it gets an epoch of its own, then checks that its generation is the newest and
-- fenced, then takes its positions, and then writes records and offsets in one transaction after the other.
use Rattle.std.specs.Prelude.{◌≡◌, ℕ, ◌<◌, ◌-◌, ◌==◌, Bool, true, not, List, [], ◌∷◌, map, length, nat_lt, nat_le}
use Rattle.std.specs.Prelude.{slice_index, Some, unwrap_or, if◌then◌else◌}
use Rattle.cw_types.specs.declared.ids.Epoch.{Epoch}
use Rattle.cw_types.specs.declared.ids.PartKey.{PartKey}
use Rattle.cw_types.specs.declared.ids.PartKey.TheVariants.{Raw, File, Seq, Sink}
use Rattle.cw_types.specs.declared.ids.Span.{Span}
use Rattle.cw_bytes.specs.declared.applied.Applied.{Applied}
use Rattle.cw_io.specs.Shelf.{Files}
use Rattle.cw_feed.specs.Feeds.{feed_of}
use Rattle.cw_keys.specs.Parts.{part_text}
use Rattle.cw_keys.specs.Offsets.{offset_text}
use Rattle.cw_config.specs.View.{generation_of, task_count_of, is_pending}
use Rattle.cw_group.specs.Group.{next}
use Rattle.cw_txn.specs.declared.entry.Entry.TheVariants.{Commit}
use Rattle.cw_offset.specs.declared.body.OffsetEntry.TheVariants.{Records}
use Rattle.cw_data.specs.declared.entry.DataEntry.{DataEntry}
use Rattle.cw_data.specs.declared.entry.DataEntry.TheVariants.{Batch}
use Rattle.cw_model.specs.declared.fault.WorldFault.TheVariants.{StaleGeneration, PendingFence, BadCut}
use Rattle.cw_model.specs.declared.instance.Cut.{Cut}
use Rattle.cw_model.specs.declared.instance.Instance.{Instance}
use Rattle.cw_model.specs.declared.instance.InstancePhase.{InstancePhase}
use Rattle.cw_model.specs.declared.instance.InstancePhase.TheVariants as phase
use Rattle.cw_model.specs.State.{Setting, Cluster}
use Rattle.cw_model.specs.Lookups.{instance_of, end_or_start}
use Rattle.cw_model.specs.Answers.{Answer, refused, answered, at_instance}
use Rattle.cw_model.specs.Updates.{changes_instance, in_phase, stamp_of, next_offset, appends_offset, appends_entries}
use Rattle.cw_model.specs.Updates.{appends_data, bumps, next_epoch, as_producer, task_id_of, tid_of}
use Rattle.cw_model.specs.Tasks.{parts_of, part_at, position_at, topic_of, count_of, is_source, tag_of, cut_of, span_of}
use Rattle.cw_model.specs.Tasks.{taking, polling_from, yielded}

-- the phase of an instance
abbrev pub IsIn : InstancePhase → ℕ → Cluster → Type 0
IsIn phase i s = (instance_of i s).phase ≡ phase

-- a task with the epoch of its producer
abbrev pub with_epoch : Epoch → Instance → Instance
with_epoch epoch i = record i { phase = phase.Inited; epoch = Some epoch }

-- a new task bumps the epoch of its producer, which fences every older one: the answer is the epoch
abbrev pub init : ℕ → Cluster → Answer Epoch
init i = at_instance i (λ s. let tid = tid_of (instance_of i s).item in
    bumps tid (changes_instance i (with_epoch (next_epoch tid s))) (next_epoch tid s) s)

-- it is new
abbrev pub MayInit : ℕ → Cluster → Type 0
MayInit i s = IsIn phase.New i s

-- whether a task isn't one of its connector's newest set, at the config log's end
abbrev pub is_stale : Instance → Cluster → Bool
is_stale i s = let id = task_id_of i.item in
    if i.generation == unwrap_or (generation_of id.connector s.configs) 0
    then not (nat_lt id.index (task_count_of id.connector s.configs))
    else true

-- a task with an epoch goes on where its set is the newest, and all older ones are fenced: the answer is its generation
abbrev pub verify : ℕ → Cluster → Answer ℕ
verify i = at_instance i (λ s. let own = instance_of i s in let name = (task_id_of own.item).connector in
    if is_stale own s then refused (StaleGeneration own.generation (unwrap_or (generation_of name s.configs) 0)) s else
    if is_pending name s.configs then refused PendingFence s else
    answered own.generation (changes_instance i (in_phase phase.Verified) s))

-- it has its epoch
abbrev pub MayVerify : ℕ → Cluster → Type 0
MayVerify i s = IsIn phase.Inited i s

-- a task at these positions, whose next transaction is its first
abbrev pub at_positions : List ℕ → Instance → Instance
at_positions positions i = record i { phase = phase.Polling; number = 0; positions = positions }

-- a verified task goes on from the committed end of each of its parts
abbrev pub fetch : ℕ → Cluster → Answer (Unit {0})
fetch i = at_instance i (λ s. answered tt (changes_instance i
    (at_positions (map (λ part. end_or_start part s.entries) (parts_of (instance_of i s)))) s))

-- its set is the newest, and all older ones are fenced
abbrev pub MayFetch : ℕ → Cluster → Type 0
MayFetch i s = IsIn phase.Verified i s

-- whether a part may not be cut there: its feed is shorter or has no line end there, or its sequence is shorter
abbrev pub ends_badly : Files → PartKey → (count to : ℕ) → Bool
ends_badly feeds (File connector feed) count to =
    if nat_lt (length (feed_of feed feeds)) to then true else not (slice_index (feed_of feed feeds) (to - 1) == 10)
ends_badly feeds (Seq connector index) count to = nat_lt count to
ends_badly feeds (Raw n) count to = true
ends_badly feeds (Sink connector topic) count to = true

-- whether a task may not take a cut: it begins elsewhere, is empty, or ends badly
abbrev pub is_bad_cut : Files → Instance → Cut → Bool
is_bad_cut feeds i cut =
    if not (cut.from == position_at cut.turn i) then true else
    if nat_le cut.to cut.from then true else ends_badly feeds (part_at cut.turn i) (count_of i) cut.to

-- what a task writes for a cut
abbrev pub batch_of : Files → Instance → Cut → DataEntry
batch_of feeds i cut = Batch (record {
  tag = tag_of i;
  topic = topic_of i;
  part = part_at cut.turn i;
  from = cut.from;
  to = cut.to;
  values = yielded feeds (part_at cut.turn i) cut.from cut.to;
})

-- a task writes the records of a cut
abbrev pub produce : Setting → ℕ → Cut → Cluster → Answer (Unit {0})
produce setting i cut = at_instance i (λ s. as_producer i
    (if is_bad_cut setting.feeds (instance_of i s) cut then refused (BadCut cut.from cut.to) s else
    appends_data (batch_of setting.feeds (instance_of i s) cut)
    (changes_instance i (taking phase.Produced cut)) tt s) s)

-- a source's task polls one of its parts
pub record MayProduce (i : ℕ) (cut : Cut) (s : Cluster) : Type 0 where
  pub polling : (instance_of i s).phase ≡ phase.Polling
  pub source : is_source (instance_of i s) ≡ true
  pub turn : cut.turn < length (parts_of (instance_of i s))

-- the record of the offset behind what a task took last
abbrev pub offset_record : Span → Cluster → Applied
offset_record span s = record {
  offset = next_offset s;
  stamp = stamp_of s;
  key = part_text span.part;
  value = Some (offset_text span.part span.to);
}

-- a task writes the offset behind these records, in the same transaction
abbrev pub put_offsets : ℕ → Cluster → Answer (Unit {0})
put_offsets i = at_instance i (λ s. let own = instance_of i s in as_producer i
    (appends_offset (Records (tag_of own) (offset_record (span_of own) s ∷ []))
    (changes_instance i (in_phase phase.Offered)) tt s) s)

-- its records stand in the data log
abbrev pub MayPutOffsets : ℕ → Cluster → Type 0
MayPutOffsets i s = IsIn phase.Produced i s

-- a task whose transaction is committed goes on behind it, with the next one
abbrev pub committed_to : ℕ → Instance → Instance
committed_to position i = record (polling_from phase.Polling position i) { number = next i.number }

-- a task commits records and offset: the answer is the span
abbrev pub commit : ℕ → Cluster → Answer Span
commit i = at_instance i (λ s. let own = instance_of i s in as_producer i
    (appends_entries (Commit (tag_of own) own.generation (span_of own ∷ []) ∷ [])
    (changes_instance i (committed_to (cut_of own).to)) (span_of own) s) s)

-- its records and their offset stand in their logs
abbrev pub MayCommit : ℕ → Cluster → Type 0
MayCommit i s = IsIn phase.Offered i s
