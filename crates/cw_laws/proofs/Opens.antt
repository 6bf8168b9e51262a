-- A state to which files open has all facts: it has no worker, and its logs are allowed and safe.
use Rattle.std.proofs.Common.{◌≡◌, ◌⊎◌, inl, inr, ℕ, ◌≤◌, ◌<◌, ◌^◌, true, false, List, [], ◌∷◌, ◌++◌, length, map, Option, Some, None, refl, ap, sym, subst, ◌∙◌, arith}
use Rattle.std.specs.List.{AllByRecursion, IsDistinct}
use Rattle.cw_types.specs.declared.ids.PartKey.{PartKey}
use Rattle.cw_types.specs.declared.ids.TaskId.{TaskId}
use Rattle.cw_bytes.specs.declared.applied.Applied.{Applied}
use Rattle.cw_bytes.specs.Frames.{EachFrom, joined}
use Rattle.cw_bytes.specs.Unread.{AreBytes}
use Rattle.cw_bytes.specs.Reading.{body_at, records_at}
use Rattle.cw_bytes.specs.Spelling.{records_bytes, AreRecords}
use Rattle.cw_bytes.proofs.Bodies.{body_takes}
use Rattle.cw_bytes.proofs.Records.{records_takes, records_again}
use Rattle.cw_config.specs.declared.records.ConfigRecord.{ConfigRecord}
use Rattle.cw_config.specs.Compaction.{configs_in, AreConfigs}
use Rattle.cw_status.specs.Compaction.{IsAllowedStatus}
use Rattle.cw_log.specs.Log.{length_of}
use Rattle.cw_assign.specs.declared.delay.Delay.TheVariants.{Idle}
use Rattle.cw_group.specs.Group.{empty_group}
use Rattle.cw_group.specs.declared.member.Member.{Member}
use Rattle.cw_txn.specs.declared.entry.Entry.{Entry}
use Rattle.cw_txn.specs.Allowed.{IsAllowedBehind}
use Rattle.cw_txn.specs.Body.{entries_bytes, AreEntries}
use Rattle.cw_txn.specs.BodyReading.{entries_at}
use Rattle.cw_txn.specs.Legal.{ChainsBehind}
use Rattle.cw_txn.proofs.Bodies.{body_takes as entries-takes}
use Rattle.cw_txn.proofs.AllowedLemmas.{allowed_is_legal}
use Rattle.cw_offset.specs.declared.body.OffsetEntry.{OffsetEntry}
use Rattle.cw_offset.specs.Body.{entry_bytes as offset_body, IsEntry as IsOffsetEntry}
use Rattle.cw_offset.specs.BodyReading.{entry_at as stored_at}
use Rattle.cw_offset.proofs.Bodies.{entry_takes as stored_takes, entry_again as stored_again}
use Rattle.cw_data.specs.declared.entry.DataEntry.{DataEntry}
use Rattle.cw_data.specs.Body.{entry_bytes as data_body, IsEntry as IsDataEntry}
use Rattle.cw_data.specs.BodyReading.{entry_at as data_at}
use Rattle.cw_data.proofs.Bodies.{entry_takes as data_takes, entry_again as data_again}
use Rattle.cw_model.specs.State.{Cluster, Setting}
use Rattle.cw_model.specs.Lookups.{list_end}
use Rattle.cw_model.specs.Bodies.{statuses_in}
use Rattle.cw_model.specs.Committed.{is_task, batches_of, BatchAgrees}
use Rattle.cw_model.specs.Fences.{StandingFence, HoldsFrom, IsNotOlder}
use Rattle.cw_model.specs.Safe.{IsSafe, HasBatches}
use Rattle.cw_model.specs.StandsFor.{Stored, Frames, AreRead, allowing_of, AreSound, HasSomeBatches, IsSafeEntry, safety_of, on_side_of, StandFor, TellsWhetherFeedsAgree}
use Rattle.cw_model.specs.Reopening.{stored_of, reopened}
use Rattle.cw_model.specs.Facts.{AreFacts}
use Rattle.cw_model.specs.FactsGroup.{GroupFacts}
use Rattle.cw_model.specs.FactsLogs.{AreShort, FitDisks, AreWritten, LogFacts}
use Rattle.cw_model.specs.FactsProducers.{IsOfTask, ProducerFacts}
use Rattle.cw_model.specs.FactsRows.{RowFacts}
use Rattle.cw_laws.specs.Openings.{AreFiles, IsOpening, Opens}
use Rattle.cw_laws.proofs.Lists.{each-weaker, each_from-weaker}
use Rattle.cw_laws.proofs.Framed.{unframed, any_from-each, of_mark}
use Rattle.cw_laws.proofs.ReadStatuses.{statuses-written}
use Rattle.cw_laws.proofs.OpenYields.{has-batches, yields-agreed}
use Rattle.cw_laws.proofs.Reopens.{frames_of, logs-allowed, logs-safe, reopens}
use Rattle.cw_laws.proofs.OpenLogs.{bodies-fit, bodies-spelled, configs-read, configs-allowed, configs-stamped, config-facts, statuses-read, status-facts}

-- false isn't true
unlike : false ≡ true → ⊥
unlike same = absurd (cc)

no-member : (member : Member) (found : Option Member) → found ≡ None → found ≡ Some member → ⊥
no-member member found is_none is_one = absurd (cc)

each-of : (P : ConfigRecord → Type 0) (before : List ConfigRecord) (r : ConfigRecord) (behind : List ConfigRecord) → AllByRecursion P (before ++ r ∷ behind) → P r
each-of P [] r behind each = each.0
each-of P (x ∷ before) r behind each = each-of P before r behind each.1

records-take : (body : List ℕ) (records : List Applied) → AreBytes body → body_at records_at body ≡ Some records → AreRecords records × (body ≡ records_bytes records)
records-take = body_takes records_at records_bytes AreRecords records_takes records_again

pub stored-take : (body : List ℕ) (entry : OffsetEntry) → AreBytes body → body_at stored_at body ≡ Some entry → IsOffsetEntry entry × (body ≡ offset_body entry)
stored-take = body_takes stored_at offset_body IsOffsetEntry stored_takes stored_again

data-take : (body : List ℕ) (entry : DataEntry) → AreBytes body → body_at data_at body ≡ Some entry → IsDataEntry entry × (body ≡ data_body entry)
data-take = body_takes data_at data_body IsDataEntry data_takes data_again

-- the state to which logs open that are read as these frames
abbrev pub opened_with : Stored → Frames → Cluster
opened_with stored frames = record {
  config = on_side_of stored.config frames.config;
  offsets = on_side_of stored.offsets frames.offsets;
  status = on_side_of stored.status frames.status;
  txn = frames.txn;
  batches = frames.batches;
  configs = configs_in frames.config;
  statuses = statuses_in frames.status;
  entries = joined frames.txn;
  group = empty_group;
  lost = [];
  delay = Idle;
  moment = 0;
  rows = [];
  instances = [];
  journal = [];
  closed = None;
}

module _ (setting : Setting) (stored : Stored) (frames : Frames) where
  abbrev opened : Cluster
  opened = opened_with stored frames

  -- ---- without workers

  no-task : (n : ℕ) (id : TaskId) → IsOfTask opened n id → ⊥
  no-task n id is_task = let within : n < 0 = is_task.within in absurd (omega arith)

  group : GroupFacts opened
  unfolding IsDistinct
  group = record {
    rising = tt;
    apart = tt;
    held = λ w claim claims x there. absurd (unlike there);
    assigned = λ w claim claims x there. absurd (unlike there);
    known = λ w member there. absurd (no-member member None refl there);
    no_repeat = tt;
    in_order = λ other. tt;
    all_joined = λ closed. tt;
    waiting = λ other w member there. absurd (no-member member None refl there);
    within = λ planned. tt;
    once = λ planned. tt;
    told = λ planned w leader known is_stable. absurd (unlike known);
    all_given = λ planned idle x there. absurd (unlike there);
    round = omega arith;
  }

  producers : ProducerFacts setting opened
  producers = record {
    generation = λ n id unfenced. absurd (unlike unfenced.verified);
    counted = λ n id unfenced. absurd (unlike unfenced.verified);
    positions = λ n id unfenced fetched. absurd (unlike unfenced.verified);
    apart = λ m n a b other unfenced. absurd (unlike unfenced.verified);
    task = λ n id newest. absurd (no-task n id newest.is_task);
    one_batch = λ n id epoch writes. absurd (no-task n id writes.is_task);
    fencing = λ w n fencing id is_fencing unfenced. absurd (unlike unfenced.verified);
    not_ahead = λ n id newest. absurd (no-task n id newest.is_task);
    apart_epochs = λ m n id epoch other writes. absurd (no-task m id writes.is_task);
    known_epochs = λ n id epoch writes. absurd (no-task n id writes.is_task);
    numbers = λ n id epoch writes. absurd (no-task n id writes.is_task);
  }

  rows : RowFacts opened
  rows = record { few = omega arith; rows = tt; instances = tt }

  -- ---- its logs

  module _ (disks : FitDisks opened) (written : AreWritten opened) (allowed : AreSound (allowing_of frames)) (safe : AreSound (safety_of frames))
      (short : AreShort setting.feeds) (tells : TellsWhetherFeedsAgree setting opened) where
    abbrev entries : List Entry
    entries = joined frames.txn

    abbrev configs : List ConfigRecord
    configs = configs_in frames.config

    entries-allowed : EachFrom IsAllowedBehind [] entries
    entries-allowed = unframed IsAllowedBehind [] frames.txn allowed.1.1.1.0

    entries-safe : EachFrom (IsSafeEntry configs frames.batches) [] entries
    entries-safe = unframed (IsSafeEntry configs frames.batches) [] frames.txn safe.1.1.1.0

    chains : (part : PartKey) → EachFrom (ChainsBehind part) [] entries
    chains part = each_from-weaker (IsSafeEntry configs frames.batches) (ChainsBehind part) [] entries (λ b e is. is.chains part) entries-safe

    some-batches : AllByRecursion (HasSomeBatches frames.batches) entries
    some-batches = any_from-each (HasSomeBatches frames.batches) [] entries
        (each_from-weaker (IsSafeEntry configs frames.batches) (λ b e. HasSomeBatches frames.batches e) [] entries (λ b e is. is.batches) entries-safe)

    batches : AllByRecursion (HasBatches frames.batches) entries
    batches = each-weaker (HasSomeBatches frames.batches) (HasBatches frames.batches) entries (has-batches entries frames.batches allowed.1.1.1.1.0) some-batches

    read-configs : AreConfigs frames.config
    read-configs = configs-read frames.config allowed.0

    stamped : AllByRecursion (λ (r : ConfigRecord). r.stamp ≤ list_end entries) configs
    stamped = configs-stamped entries frames.config read-configs safe.0

    fenced : (name : List ℕ) (generation mark : ℕ) → StandingFence configs name generation mark → HoldsFrom name generation mark entries
    fenced name generation mark standing = record {
      within = subst (λ (n : ℕ). n ≤ list_end entries) standing.stamped
          (each-of (λ (r : ConfigRecord). r.stamp ≤ list_end entries) standing.before standing.fence standing.behind
          (subst (AllByRecursion (λ (r : ConfigRecord). r.stamp ≤ list_end entries)) standing.split stamped));
      none_older = of_mark (IsNotOlder name generation) mark mark [] entries (omega arith)
          (each_from-weaker (IsSafeEntry configs frames.batches) (λ b e. mark ≤ length b → IsNotOlder name generation e) [] entries (λ b e is. is.fenced name generation mark standing) entries-safe);
    }

    is-safe : IsSafe setting opened
    is-safe = record {
      disjoint = λ v w x other v_is w_is held. refl;
      fenced = fenced;
      exact = record {
        chains = chains;
        yields = λ agreed part source. yields-agreed setting.feeds entries frames.batches (tells.0 agreed) entries-allowed batches part source (chains part);
      };
      backed = record { legal = allowed_is_legal entries entries-allowed; batches = batches };
    }

    statuses-all : EachFrom IsAllowedStatus [] (joined frames.status)
    statuses-all = unframed IsAllowedStatus [] frames.status allowed.1.1.0

    logs : LogFacts setting opened
    logs = record {
      configs_read = read-configs;
      statuses_read = statuses-read [] (joined frames.status) statuses-all;
      configs = config-facts configs entries (configs-allowed frames.config allowed.0) stamped;
      statuses = status-facts frames.status statuses-all (statuses-written (joined frames.status));
      entries = entries-allowed;
      all_entries = refl;
      offsets = allowed.1.0;
      batches = allowed.1.1.1.1.0;
      agree = λ agreed. each-weaker (BatchAgrees setting.feeds entries) (λ batch. is_task batch.tag.tid ≡ true → BatchAgrees setting.feeds entries batch) (batches_of frames.batches)
          (λ batch agrees task. agrees) (tells.0 agreed);
      short = short;
      disks = disks;
      written = written;
    }

    pub opened-facts : AreFacts setting opened
    opened-facts = record { safe = is-safe; group = group; logs = logs; rows = rows; producers = producers; journal = tt }

short-by : (bodies other : List (List ℕ)) → bodies ≡ other → length_of bodies < 2 ^ 64 → length_of other < 2 ^ 64
short-by bodies other same size = subst (λ l. length_of l < 2 ^ 64) same size

module _ (stored : Stored) (frames : Frames) (files : AreFiles stored) (read : AreRead stored frames) where
  disks-fit : FitDisks (opened_with stored frames)
  disks-fit = record {
    config = short-by stored.config.frames (map records_bytes frames.config) (bodies-spelled records_at records_bytes AreRecords records-take stored.config.frames frames.config files.config.bytes read.config) files.config.size;
    offsets = short-by stored.offsets.frames (map offset_body frames.offsets) (bodies-spelled stored_at offset_body IsOffsetEntry stored-take stored.offsets.frames frames.offsets files.offsets.bytes read.offsets) files.offsets.size;
    status = short-by stored.status.frames (map records_bytes frames.status) (bodies-spelled records_at records_bytes AreRecords records-take stored.status.frames frames.status files.status.bytes read.status) files.status.size;
    txn = short-by stored.txn (map entries_bytes frames.txn) (bodies-spelled entries_at entries_bytes AreEntries entries-takes stored.txn frames.txn files.txn.bytes read.txn) files.txn.size;
    batches = short-by stored.batches (map data_body frames.batches) (bodies-spelled data_at data_body IsDataEntry data-take stored.batches frames.batches files.batches.bytes read.batches) files.batches.size;
  }

  frames-written : AreWritten (opened_with stored frames)
  frames-written = record {
    config = bodies-fit records_at records_bytes AreRecords records-take stored.config.frames frames.config files.config.bytes read.config;
    offsets = bodies-fit stored_at offset_body IsOffsetEntry stored-take stored.offsets.frames frames.offsets files.offsets.bytes read.offsets;
    status = bodies-fit records_at records_bytes AreRecords records-take stored.status.frames frames.status files.status.bytes read.status;
    txn = bodies-fit entries_at entries_bytes AreEntries entries-takes stored.txn frames.txn files.txn.bytes read.txn;
    batches = bodies-fit data_at data_body IsDataEntry data-take stored.batches frames.batches files.batches.bytes read.batches;
  }

-- a state for which files stand is the one to which they open
stands-opened : (stored : Stored) (s : Cluster) (stand : StandFor stored s) → s ≡ opened_with stored stand.frames
stands-opened stored s stand =
    let frames : Frames = stand.frames in
    let config : s.config ≡ on_side_of stored.config frames.config = stand.holds.config in
    let status : s.status ≡ on_side_of stored.status frames.status = stand.holds.status in
    let configs : s.configs ≡ configs_in frames.config = stand.opened.configs ∙ ap (λ log. configs_in log.frames) config in
    let statuses : s.statuses ≡ statuses_in frames.status = stand.opened.statuses ∙ ap (λ log. statuses_in log.frames) status in
    let entries : s.entries ≡ joined frames.txn = stand.opened.entries ∙ ap joined stand.holds.txn in
    λ i. record {
      config = config i;
      offsets = stand.holds.offsets i;
      status = status i;
      txn = stand.holds.txn i;
      batches = stand.holds.batches i;
      configs = configs i;
      statuses = statuses i;
      entries = entries i;
      group = stand.opened.group i;
      lost = stand.opened.lost i;
      delay = stand.opened.delay i;
      moment = stand.opened.moment i;
      rows = stand.opened.rows i;
      instances = stand.opened.instances i;
      journal = stand.opened.journal i;
      closed = stand.opened.closed i;
    }

pub opens : (setting : Setting) (stored : Stored) (s : Cluster) → IsOpening setting stored s → AreFacts setting s
opens setting stored s opening =
    let stand : StandFor stored s = opening.stand in
    let same : s ≡ opened_with stored stand.frames = stands-opened stored s stand in
    subst (AreFacts setting) (sym same)
    (opened-facts setting stored stand.frames (disks-fit stored stand.frames opening.files stand.read) (frames-written stored stand.frames opening.files stand.read) stand.allowed stand.safe opening.short
    (subst (TellsWhetherFeedsAgree setting) same opening.tells))

-- ---- the logs of a state, as they are written

pub reopened-facts : (setting other : Setting) (s : Cluster) → AreFacts setting s → AreShort other.feeds → TellsWhetherFeedsAgree other (reopened s) → AreFacts other (reopened s)
reopened-facts setting other s f short tells =
    opened-facts other (stored_of s) (frames_of s)
    (record { config = f.logs.disks.config; offsets = f.logs.disks.offsets; status = f.logs.disks.status; txn = f.logs.disks.txn; batches = f.logs.disks.batches })
    (record { config = f.logs.written.config; offsets = f.logs.written.offsets; status = f.logs.written.status; txn = f.logs.written.txn; batches = f.logs.written.batches })
    (logs-allowed setting s f) (logs-safe setting s f) short tells

-- what stands for one of two states that have all facts opens again
pub left-opens : (setting other : Setting) (s t : Cluster) (stored : Stored) → AreFacts setting s → AreFacts setting t → AreShort other.feeds → (stored ≡ stored_of s) ⊎ (stored ≡ stored_of t) → Opens other stored
left-opens setting other s t stored f g short (inl before) = record {
  state = reopened s;
  stand = subst (λ (l : Stored). StandFor l (reopened s)) (sym before) (reopens setting s f);
  facts = reopened-facts setting other s f short;
}
left-opens setting other s t stored f g short (inr behind) = record {
  state = reopened t;
  stand = subst (λ (l : Stored). StandFor l (reopened t)) (sym behind) (reopens setting t g);
  facts = reopened-facts setting other t g short;
}
