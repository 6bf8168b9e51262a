-- A log that is compacted keeps all facts.
use Rattle.std.proofs.Common.{◌≡◌, ℕ, suc, ◌-◌, ◌≤◌, ◌^◌, ◌==◌, Bool, true, false, not, cond, List, [], ◌∷◌, length, map, nat_lt, refl, sym, subst, ◌∙◌, arith}
use Rattle.std.specs.List.{filter, flat_map, AllByRecursion}
use Rattle.std.proofs.lemmas.Bool.Decides.{nat_tests}
use Rattle.cw_types.specs.declared.logs.LogName.{LogName}
use Rattle.cw_types.specs.declared.logs.LogName.TheVariants.{Config, Offsets, Status, Txn, Batches}
use Rattle.cw_bytes.specs.declared.applied.Applied.{Applied}
use Rattle.cw_bytes.specs.Frames.{joined, staying, is_last}
use Rattle.cw_bytes.specs.Spelling.{IsRecord, AreRecords}
use Rattle.cw_bytes.proofs.Compacted.{joined-staying}
use Rattle.cw_config.specs.declared.records.ConfigRecord.{ConfigRecord}
use Rattle.cw_config.specs.Compaction.{configs_in, clean_part, config_stays, compact_configs, AreConfigs, SaysTheSame}
use Rattle.cw_offset.specs.declared.body.OffsetEntry.{OffsetEntry}
use Rattle.cw_offset.specs.declared.body.OffsetEntry.TheVariants.{Records, Mark}
use Rattle.cw_offset.specs.Body.{IsEntry}
use Rattle.cw_offset.specs.Log.{offset_records}
use Rattle.cw_offset.specs.Compaction.{offset_goes, records_staying, offset_stays, compact_offsets}
use Rattle.cw_offset.proofs.Stays.{compacted}
use Rattle.cw_status.specs.Compaction.{compact_statuses}
use Rattle.cw_txn.specs.declared.entry.Entry.{Entry}
use Rattle.cw_model.specs.declared.fault.WorldFault.TheVariants.{Full}
use Rattle.cw_model.specs.State.{Cluster, Setting}
use Rattle.cw_model.specs.Answers.{refused, answered}
use Rattle.cw_model.specs.Bodies.{config_length, offsets_length, status_length}
use Rattle.cw_model.specs.EventsCompaction.{on_other_side, compacts, compact}
use Rattle.cw_model.specs.Facts.{AreFacts}
use Rattle.cw_model.specs.FactsLogs.{LogFacts, ConfigFacts}
use Rattle.cw_model.proofs.Shorter.{configs-shorter, offsets-shorter, statuses-shorter}
use Rattle.cw_laws.proofs.Wrappers.{closed-keeps, if-keeps}
use Rattle.cw_laws.proofs.Grows.{goes_on-same}
use Rattle.cw_laws.proofs.Relog.{relog}
use Rattle.cw_laws.proofs.CompactConfigs.{left-allowed, left-fences, left-same, left-each}
use Rattle.cw_laws.proofs.CompactStatuses.{left-read, left-statuses}

-- ---- what stays of frames

each-filter : {A : Type 0} (P : A → Type 0) (p : A → Bool) (xs : List A) → AllByRecursion P xs → AllByRecursion P (filter p xs)
each-filter P p [] each = tt
each-filter P p (x ∷ xs) each = by (p x) (each-filter P p xs each.1)
  where
    by : (b : Bool) → AllByRecursion P (filter p xs) → AllByRecursion P (cond b (x ∷ filter p xs) (filter p xs))
    by true rest = (each.0, rest)
    by false rest = rest

length-filter : {A : Type 0} (p : A → Bool) (xs : List A) → length (filter p xs) ≤ length xs
length-filter p [] = omega arith
length-filter p (x ∷ xs) = by (p x) (length-filter p xs)
  where
    by : (b : Bool) → length (filter p xs) ≤ length xs → length (cond b (x ∷ filter p xs) (filter p xs)) ≤ suc (length xs)
    by true rest = omega (arith, rest)
    by false rest = omega (arith, rest)

-- what a record of a frame has, each that stays has
each-staying : (P : Applied → Type 0) (p : Applied → Bool) (frames : List (List Applied)) → AllByRecursion P (joined frames) → AllByRecursion P (joined (staying p frames))
each-staying P p frames each = subst (AllByRecursion P) (sym (joined-staying p frames)) (each-filter P p (joined frames) each)

filled : (n : ℕ) → not (n == 0) ≡ true → 1 ≤ n
filled n e = grind (arith, nat_tests)

some-written : (p : Applied → Bool) (records : List Applied) → AreRecords records → not (length (filter p records) == 0) ≡ true → AreRecords (filter p records)
some-written p records written some = record {
  some = filled (length (filter p records)) some;
  few = omega (arith, written.few, length-filter p records);
  each = each-filter IsRecord p records written.each;
}

-- a frame that stays has bytes
staying-written : (p : Applied → Bool) (frames : List (List Applied)) → AllByRecursion AreRecords frames → AllByRecursion AreRecords (staying p frames)
staying-written p [] written = tt
staying-written p (frame ∷ frames) written = by (not (length (filter p frame) == 0)) (some-written p frame written.0) (staying-written p frames written.1)
  where
    by : (b : Bool) → (b ≡ true → AreRecords (filter p frame)) → AllByRecursion AreRecords (staying p frames) → AllByRecursion AreRecords (cond b (filter p frame ∷ staying p frames) (staying p frames))
    by true here rest = (here refl, rest)
    by false here rest = rest

-- and so has what stays of the offset log
module _ (entries : List Entry) (log kept : List OffsetEntry) where
  entry-written : (entry : OffsetEntry) → IsEntry entry → offset_stays kept (records_staying entries log entry) ≡ true → IsEntry (records_staying entries log entry)
  entry-written (Records tag records) written stays = (written.0, some-written (λ r. not (offset_goes entries log tag r)) records written.1 stays)
  entry-written (Mark mark) written stays = written

  entries-written : (some : List OffsetEntry) → AllByRecursion IsEntry some → AllByRecursion IsEntry (filter (offset_stays kept) (map (records_staying entries log) some))
  entries-written [] written = tt
  entries-written (entry ∷ some) written = by (offset_stays kept (records_staying entries log entry)) (entry-written entry written.0) (entries-written some written.1)
    where
      by : (b : Bool) → (b ≡ true → IsEntry (records_staying entries log entry)) → AllByRecursion IsEntry (filter (offset_stays kept) (map (records_staying entries log) some))
          → AllByRecursion IsEntry (cond b (records_staying entries log entry ∷ filter (offset_stays kept) (map (records_staying entries log) some)) (filter (offset_stays kept) (map (records_staying entries log) some)))
      by true here rest = (here refl, rest)
      by false here rest = rest

-- ---- the facts of the logs

same-through : (a b c : List ConfigRecord) → SaysTheSame a b → SaysTheSame b c → SaysTheSame a c
same-through a b c f g = record {
  end = f.end ∙ g.end;
  config = λ name. f.config name ∙ g.config name;
  target = λ name. f.target name ∙ g.target name;
  generation = λ name. f.generation name ∙ g.generation name;
  task_count = λ name. f.task_count name ∙ g.task_count name;
  fenced_count = λ name. f.fenced_count name ∙ g.fenced_count name;
  task = λ id. f.task id ∙ g.task id;
  deferred = λ id. f.deferred id ∙ g.deferred id;
  pending = λ name. f.pending name ∙ g.pending name;
}

-- what a compaction leaves of the config log says what the whole list says, and its fences stand
left-configs : (frames : List (List Applied)) (whole : List ConfigRecord) (entries : List Entry) → AreConfigs frames → ConfigFacts (configs_in frames) whole entries →
    ConfigFacts (configs_in (compact_configs frames)) whole entries
left-configs frames whole entries read f = record {
  allowed = f.allowed;
  stamped = f.stamped;
  same = same-through (configs_in (compact_configs frames)) (configs_in frames) whole (left-same frames read f.standing_allowed) f.same;
  among = left-each frames read f.standing_allowed _ f.among;
  standing_allowed = left-allowed frames read f.standing_allowed;
  fences = λ name generation mark standing. f.fences name generation mark (left-fences frames read f.standing_allowed name generation mark standing);
}

module _ (setting : Setting) (s : Cluster) (f : LogFacts setting s) where
  logs-configs : LogFacts setting (record s { config = on_other_side (compact_configs s.config.frames) s.config })
  logs-configs = record {
    configs_read = each-staying _ (config_stays (clean_part (joined s.config.frames))) s.config.frames f.configs_read;
    statuses_read = f.statuses_read;
    configs = left-configs s.config.frames s.configs s.entries f.configs_read f.configs;
    statuses = f.statuses;
    entries = f.entries;
    all_entries = f.all_entries;
    offsets = f.offsets;
    batches = f.batches;
    agree = f.agree;
    short = f.short;
    disks = record { config = omega (arith, f.disks.config, configs-shorter s.config.frames); offsets = f.disks.offsets; status = f.disks.status; txn = f.disks.txn; batches = f.disks.batches };
    written = record {
      config = staying-written (config_stays (clean_part (joined s.config.frames))) s.config.frames f.written.config;
      offsets = f.written.offsets;
      status = f.written.status;
      txn = f.written.txn;
      batches = f.written.batches;
    };
  }

  logs-offsets : LogFacts setting (record s { offsets = on_other_side (compact_offsets s.entries s.offsets.frames) s.offsets })
  logs-offsets = record {
    configs_read = f.configs_read;
    statuses_read = f.statuses_read;
    configs = f.configs;
    statuses = f.statuses;
    entries = f.entries;
    all_entries = f.all_entries;
    offsets = compacted s.entries s.offsets.frames f.offsets;
    batches = f.batches;
    agree = f.agree;
    short = f.short;
    disks = record { config = f.disks.config; offsets = omega (arith, f.disks.offsets, offsets-shorter s.entries s.offsets.frames); status = f.disks.status; txn = f.disks.txn; batches = f.disks.batches };
    written = record {
      config = f.written.config;
      offsets = entries-written s.entries s.offsets.frames (map (records_staying s.entries s.offsets.frames) s.offsets.frames) s.offsets.frames f.written.offsets;
      status = f.written.status;
      txn = f.written.txn;
      batches = f.written.batches;
    };
  }

  logs-statuses : LogFacts setting (record s { status = on_other_side (compact_statuses s.status.frames) s.status })
  logs-statuses = record {
    configs_read = f.configs_read;
    statuses_read = left-read s.status.frames s.statuses f.statuses_read f.statuses;
    configs = f.configs;
    statuses = left-statuses s.status.frames s.statuses f.statuses_read f.statuses;
    entries = f.entries;
    all_entries = f.all_entries;
    offsets = f.offsets;
    batches = f.batches;
    agree = f.agree;
    short = f.short;
    disks = record { config = f.disks.config; offsets = f.disks.offsets; status = omega (arith, f.disks.status, statuses-shorter s.status.frames); txn = f.disks.txn; batches = f.disks.batches };
    written = record {
      config = f.written.config;
      offsets = f.written.offsets;
      status = staying-written (is_last (joined s.status.frames)) s.status.frames f.written.status;
      txn = f.written.txn;
      batches = f.written.batches;
    };
  }

-- ---- the event

worn-keeps : {A : Type 0} (setting : Setting) (log : LogName) (size side : ℕ) (answer : A) (s t : Cluster) → AreFacts setting s → AreFacts setting t →
    AreFacts setting (cond (nat_lt side (2 ^ 64 - 1)) (answered answer t) (refused (Full log size 0) s)).1
worn-keeps setting log size side answer s t f done =
    if-keeps (AreFacts setting) (nat_lt side (2 ^ 64 - 1)) (answered answer t) (refused (Full log size 0) s) (λ fresh. done) (λ worn. f)

compacts-keep : (setting : Setting) (log : LogName) (s : Cluster) → AreFacts setting s → AreFacts setting (compacts log s).1
compacts-keep setting Config s f =
    let frames : List (List Applied) = compact_configs s.config.frames in
    let t : Cluster = record s { config = on_other_side frames s.config } in
    worn-keeps setting Config (config_length s) s.config.side (length (joined s.config.frames), length (joined frames)) s t f
    (relog setting s t (goes_on-same s.statuses) (λ closed. closed) (logs-configs setting s f.logs) f)
compacts-keep setting Offsets s f =
    let frames : List OffsetEntry = compact_offsets s.entries s.offsets.frames in
    let t : Cluster = record s { offsets = on_other_side frames s.offsets } in
    worn-keeps setting Offsets (offsets_length s) s.offsets.side (length (flat_map offset_records s.offsets.frames), length (flat_map offset_records frames)) s t f
    (relog setting s t (goes_on-same s.statuses) (λ closed. closed) (logs-offsets setting s f.logs) f)
compacts-keep setting Status s f =
    let frames : List (List Applied) = compact_statuses s.status.frames in
    let t : Cluster = record s { status = on_other_side frames s.status } in
    worn-keeps setting Status (status_length s) s.status.side (length (joined s.status.frames), length (joined frames)) s t f
    (relog setting s t (goes_on-same s.statuses) (λ closed. closed) (logs-statuses setting s f.logs) f)
compacts-keep setting Txn s f = f
compacts-keep setting Batches s f = f

pub compact-keeps : (setting : Setting) (log : LogName) (s : Cluster) → AreFacts setting s → AreFacts setting (compact log s).1
compact-keeps setting log s f = closed-keeps (AreFacts setting) s s.closed (compacts log s) f (compacts-keep setting log s f)
