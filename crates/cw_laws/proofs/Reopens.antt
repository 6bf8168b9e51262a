-- The logs of a state that has all facts, as they are written, open to the state without workers that holds them.
use Rattle.std.proofs.Common.{◌≡◌, ℕ, ◌≤◌, List, [], ◌∷◌, ◌++◌, length, Some, Contains, refl, ap, sym, subst, ◌∙◌, arith}
use Rattle.std.specs.Bool.{⊤}
use Rattle.std.specs.Option.{IsSomeAnd}
use Rattle.std.specs.List.{filter_map, AllByRecursion, Any}
use Rattle.std.proofs.lemmas.List.Elements.{All-from_recursion, All-contains, filter_map-append}
use Rattle.cw_types.specs.declared.ids.Tag.{Tag}
use Rattle.cw_types.specs.declared.ids.PartKey.{PartKey}
use Rattle.cw_types.specs.declared.ids.Span.{Span}
use Rattle.cw_bytes.specs.declared.applied.Applied.{Applied}
use Rattle.cw_bytes.specs.Frames.{EachFrom, joined}
use Rattle.cw_bytes.specs.Reading.{records_at}
use Rattle.cw_bytes.specs.Spelling.{records_bytes, AreRecords}
use Rattle.cw_bytes.proofs.Bodies.{body_again}
use Rattle.cw_bytes.proofs.Records.{records_takes, records_again}
use Rattle.cw_config.specs.declared.records.ConfigRecord.{ConfigRecord}
use Rattle.cw_config.specs.Compaction.{config_in, configs_in, AreConfigs}
use Rattle.cw_txn.specs.declared.entry.Entry.{Entry}
use Rattle.cw_txn.specs.declared.entry.Entry.TheVariants.{Bump, Commit, Set}
use Rattle.cw_txn.specs.Allowed.{IsAllowedBehind}
use Rattle.cw_txn.specs.Body.{entries_bytes, AreEntries}
use Rattle.cw_txn.specs.BodyReading.{entries_at}
use Rattle.cw_txn.specs.Legal.{ChainsBehind}
use Rattle.cw_txn.proofs.Bodies.{body_again as entries-again}
use Rattle.cw_offset.specs.Acceptance.{IsAllowedStored}
use Rattle.cw_offset.specs.Body.{entry_bytes as offset_body, IsEntry as IsOffsetEntry}
use Rattle.cw_offset.specs.BodyReading.{entry_at as stored_at}
use Rattle.cw_offset.proofs.Bodies.{entry_takes as stored_takes, entry_again as stored_again}
use Rattle.cw_status.specs.Compaction.{IsAllowedStatus}
use Rattle.cw_data.specs.declared.entry.DataEntry.{DataEntry}
use Rattle.cw_data.specs.Body.{entry_bytes as data_body, IsEntry as IsDataEntry}
use Rattle.cw_data.specs.BodyReading.{entry_at as data_at}
use Rattle.cw_data.proofs.Bodies.{entry_takes as data_takes, entry_again as data_again}
use Rattle.cw_model.specs.State.{Cluster, Setting}
use Rattle.cw_model.specs.Lookups.{list_end}
use Rattle.cw_model.specs.Committed.{batches_of, is_batch_of}
use Rattle.cw_model.specs.ConfigsAllowed.{IsAllowedConfig, AreAllowedConfigs}
use Rattle.cw_model.specs.Fences.{StandingFence, HoldsFrom, IsNotOlder}
use Rattle.cw_model.specs.Safe.{HasBatch, HasBatches}
use Rattle.cw_model.specs.Allowed.{IsAllowedData}
use Rattle.cw_model.specs.StandsFor.{Frames, AreRead, IsAllowedFrame, allowing_of, AreSound, IsBatchFor, HasSomeBatches, IsSafeEntry, AreStamped, safety_of, StandFor, entries_in}
use Rattle.cw_model.specs.Reopening.{stored_of, reopened}
use Rattle.cw_model.specs.Facts.{AreFacts}
use Rattle.cw_laws.proofs.Lists.{each-weaker}
use Rattle.cw_laws.proofs.Written.{joined-push}
use Rattle.cw_laws.proofs.CompactConfigs.{AreRead as AreConfigsRead, read-cons, config-reads, some_value}
use Rattle.cw_laws.proofs.CompactStatuses.{statuses-allowed}
use Rattle.cw_laws.proofs.Framed.{each_from-first, each_from-rest, each-first, each-rest, framed, each_from-any, from_mark, any-only, read-again}

-- ---- the config log, frame by frame

allowed-frame : (before : List ConfigRecord) (frame : List Applied) → AreConfigsRead frame → AreAllowedConfigs before (filter_map config_in frame) → IsAllowedFrame before frame
allowed-frame before [] read allowed = tt
allowed-frame before (a ∷ frame) read allowed =
    let found : (r : ConfigRecord) × (config_in a ≡ Some r) = some_value (config_in a) read.0 in
    let r : ConfigRecord = found.0 in
    let there : AreAllowedConfigs before (r ∷ filter_map config_in frame) = subst (AreAllowedConfigs before) (read-cons a r frame found.1) allowed in
    subst (λ o. IsSomeAnd o (λ q. IsAllowedConfig before q × IsAllowedFrame (before ++ q ∷ []) frame)) (sym found.1)
    (there.0, allowed-frame (before ++ r ∷ []) frame read.1 there.1)

pub configs-push : (before : List (List Applied)) (frame : List Applied) → configs_in (before ++ frame ∷ []) ≡ configs_in before ++ filter_map config_in frame
configs-push before frame = ap (filter_map config_in) (joined-push before frame) ∙ filter_map-append config_in (joined before) frame

pub configs-framed : (before frames : List (List Applied)) → AreConfigs frames → AreAllowedConfigs (configs_in before) (configs_in frames) →
    EachFrom (λ b frame. IsAllowedFrame (configs_in b) frame) before frames
configs-framed before [] read allowed = tt
configs-framed before (frame ∷ frames) read allowed =
    let parts : AreAllowedConfigs (configs_in before) (filter_map config_in frame ++ configs_in frames) =
    subst (AreAllowedConfigs (configs_in before)) (filter_map-append config_in frame (joined frames)) allowed in (
      allowed-frame (configs_in before) frame (each-first _ frame (joined frames) read) (each_from-first IsAllowedConfig (configs_in before) (filter_map config_in frame) (configs_in frames) parts),
      configs-framed (before ++ frame ∷ []) frames (each-rest _ frame (joined frames) read)
          (subst (λ l. AreAllowedConfigs l (configs_in frames)) (sym (configs-push before frame))
          (each_from-rest IsAllowedConfig (configs_in before) (filter_map config_in frame) (configs_in frames) parts)),
    )

-- no stamp is past the transaction list's end
stamped-records : (end : ℕ) (xs : List Applied) → AreConfigsRead xs → AllByRecursion (λ (r : ConfigRecord). r.stamp ≤ end) (filter_map config_in xs) → AllByRecursion (λ (a : Applied). a.stamp ≤ end) xs
stamped-records end [] read each = tt
stamped-records end (a ∷ xs) read each =
    let found : (r : ConfigRecord) × (config_in a ≡ Some r) = some_value (config_in a) read.0 in
    let r : ConfigRecord = found.0 in
    let there : AllByRecursion (λ (r : ConfigRecord). r.stamp ≤ end) (r ∷ filter_map config_in xs) = subst (AllByRecursion (λ (r : ConfigRecord). r.stamp ≤ end)) (read-cons a r xs found.1) each in
    (subst (λ (n : ℕ). n ≤ end) (config-reads a r found.1).stamp there.0, stamped-records end xs read.1 there.1)

stamped-frames : (entries : List Entry) (frames : List (List Applied)) → AllByRecursion (λ (a : Applied). a.stamp ≤ list_end entries) (joined frames) → AllByRecursion (AreStamped entries) frames
stamped-frames entries [] each = tt
stamped-frames entries (frame ∷ frames) each = (each-first _ frame (joined frames) each, stamped-frames entries frames (each-rest _ frame (joined frames) each))

pub each-nothing : {A : Type 0} (before xs : List A) → EachFrom (λ b x. ⊤) before xs
each-nothing before [] = tt
each-nothing before (x ∷ xs) = (tt, each-nothing (before ++ x ∷ []) xs)

-- ---- entries

is-batch-for : (tag : Tag) (span : Span) (log : List DataEntry) → HasBatch log tag span → Any (IsBatchFor tag span) (batches_of log)
is-batch-for tag span log has =
    any-only (IsBatchFor tag span) (is_batch_of tag span.part) (batches_of log) has.batch has.only (λ is. record { is_of = is; begins = has.begins; ends = has.ends })

some-batches : (log : List DataEntry) (entry : Entry) → HasBatches log entry → HasSomeBatches log entry
some-batches log (Bump tid) has = tt
some-batches log (Commit tag generation spans) has = λ task. each-weaker (HasBatch log tag) (λ span. Any (IsBatchFor tag span) (batches_of log)) spans (λ span. is-batch-for tag span log) (has task)
some-batches log (Set tid epoch list) has = tt

safe-entries : (records : List ConfigRecord) (log : List DataEntry) (before xs : List Entry) → ((part : PartKey) → EachFrom (ChainsBehind part) before xs) → AllByRecursion (HasBatches log) xs →
    ((name : List ℕ) (generation mark : ℕ) → StandingFence records name generation mark → EachFrom (λ b x. mark ≤ length b → IsNotOlder name generation x) before xs) →
    EachFrom (IsSafeEntry records log) before xs
safe-entries records log before [] chains batches fenced = tt
safe-entries records log before (x ∷ xs) chains batches fenced = (
  record {
    chains = λ part. (chains part).0;
    batches = some-batches log x batches.0;
    fenced = λ name generation mark standing. (fenced name generation mark standing).0;
  },
  safe-entries records log (before ++ x ∷ []) xs (λ part. (chains part).1) batches.1 (λ name generation mark standing. (fenced name generation mark standing).1),
)

-- ---- all logs

-- the frames of a state's logs
abbrev pub frames_of : Cluster → Frames
frames_of s = record { config = s.config.frames; offsets = s.offsets.frames; status = s.status.frames; txn = s.txn; batches = s.batches }

module _ (setting : Setting) (s : Cluster) (f : AreFacts setting s) where
  abbrev frames : Frames
  frames = frames_of s

  read : AreRead (stored_of s) frames
  read = record {
    config = read-again records_at records_bytes AreRecords (body_again records_at records_bytes AreRecords records_takes records_again) s.config.frames f.logs.written.config;
    offsets = read-again stored_at offset_body IsOffsetEntry (body_again stored_at offset_body IsOffsetEntry stored_takes stored_again) s.offsets.frames f.logs.written.offsets;
    status = read-again records_at records_bytes AreRecords (body_again records_at records_bytes AreRecords records_takes records_again) s.status.frames f.logs.written.status;
    txn = read-again entries_at entries_bytes AreEntries entries-again s.txn f.logs.written.txn;
    batches = read-again data_at data_body IsDataEntry (body_again data_at data_body IsDataEntry data_takes data_again) s.batches f.logs.written.batches;
  }

  -- the transaction log holds the whole list
  list-is : entries_in frames ≡ s.entries
  list-is = f.logs.all_entries

  pub logs-allowed : AreSound (allowing_of (frames_of s))
  logs-allowed = (
    configs-framed [] s.config.frames f.logs.configs_read f.logs.configs.standing_allowed,
    (
      subst (λ l. EachFrom (IsAllowedStored l) [] s.offsets.frames) (sym list-is) f.logs.offsets,
      (
        framed IsAllowedStatus [] s.status.frames (statuses-allowed s.status.frames s.statuses f.logs.statuses_read f.logs.statuses),
        (
          framed IsAllowedBehind [] s.txn (subst (EachFrom IsAllowedBehind []) (sym list-is) f.logs.entries),
          (subst (λ l. EachFrom (IsAllowedData l) [] s.batches) (sym list-is) f.logs.batches, tt),
        ),
      ),
    ),
  )

  stamps : AllByRecursion (AreStamped s.entries) s.config.frames
  stamps = stamped-frames s.entries s.config.frames
      (stamped-records (list_end s.entries) (joined s.config.frames) f.logs.configs_read
      (each-weaker (Contains s.configs) (λ (r : ConfigRecord). r.stamp ≤ list_end s.entries) (configs_in s.config.frames)
      (λ r there. All-contains (λ (q : ConfigRecord). q.stamp ≤ list_end s.entries) s.configs r (All-from_recursion (λ (q : ConfigRecord). q.stamp ≤ list_end s.entries) s.configs f.logs.configs.stamped) there)
      f.logs.configs.among))

  fenced : (name : List ℕ) (generation mark : ℕ) → StandingFence (configs_in s.config.frames) name generation mark → EachFrom (λ b x. mark ≤ length b → IsNotOlder name generation x) [] s.entries
  fenced name generation mark standing =
      let holds : HoldsFrom name generation mark s.entries = f.safe.fenced name generation mark (f.logs.configs.fences name generation mark standing) in
      from_mark (IsNotOlder name generation) mark mark [] s.entries (omega arith) holds.none_older

  pub logs-safe : AreSound (safety_of (frames_of s))
  logs-safe = (
    each_from-any (AreStamped (entries_in frames)) [] s.config.frames (subst (λ l. AllByRecursion (AreStamped l) s.config.frames) (sym list-is) stamps),
    (
      each-nothing [] s.offsets.frames,
      (
        each-nothing [] s.status.frames,
        (
          framed (IsSafeEntry (configs_in s.config.frames) s.batches) [] s.txn
              (subst (EachFrom (IsSafeEntry (configs_in s.config.frames) s.batches) []) (sym list-is)
              (safe-entries (configs_in s.config.frames) s.batches [] s.entries f.safe.exact.chains f.safe.backed.batches fenced)),
          (each-nothing [] s.batches, tt),
        ),
      ),
    ),
  )

  pub reopens : StandFor (stored_of s) (reopened s)
  reopens = record {
    frames = frames;
    read = read;
    allowed = logs-allowed;
    safe = logs-safe;
    holds = record { config = refl; offsets = refl; status = refl; txn = refl; batches = refl };
    opened = record {
      configs = refl;
      statuses = refl;
      entries = refl;
      group = refl;
      lost = refl;
      delay = refl;
      moment = refl;
      rows = refl;
      instances = refl;
      journal = refl;
      closed = refl;
    };
  }
