-- What eight disks are judged as: where the gate of a harmed frame stands, and that what was read is what is written.
use Rattle.std.proofs.Common.{◌≡◌, inl, inr, ℕ, ◌<◌, ◌^◌, Bool, List, [], ◌∷◌, length, map, slice_index_or, Option, Some, None, Result, Ok, Err, refl, sym, ap, subst, ◌∙◌, arith, length-append}
use Rattle.std.specs.Prelude.{IfErr, IfOk}
use Rattle.std.specs.List.{AllZip}
use Rattle.cw_types.specs.declared.logs.LogName.{LogName}
use Rattle.cw_types.specs.declared.logs.LogName.TheVariants.{Config, Offsets, Status, Txn, Batches}
use Rattle.cw_types.specs.declared.logs.DiskName.{DiskName}
use Rattle.cw_disk.specs.declared.device.Disk.{Ghosts}
use Rattle.cw_disk.specs.declared.disks.Disks.{Disks}
use Rattle.cw_bytes.specs.declared.applied.Applied.{Applied}
use Rattle.cw_bytes.specs.Unread.{Unread, AreBytes}
use Rattle.cw_bytes.specs.Reading.{Read, body_at, records_at}
use Rattle.cw_bytes.specs.Spelling.{records_bytes, AreRecords}
use Rattle.cw_bytes.proofs.Bodies.{body_takes}
use Rattle.cw_bytes.proofs.Records.{records_takes, records_again}
use Rattle.cw_txn.specs.Body.{entries_bytes, AreEntries}
use Rattle.cw_txn.specs.BodyReading.{entries_at}
use Rattle.cw_txn.proofs.Bodies.{body_takes as entries-take}
use Rattle.cw_offset.specs.Body.{entry_bytes as offset_body, IsEntry as IsOffsetEntry}
use Rattle.cw_offset.specs.BodyReading.{entry_at as stored_at}
use Rattle.cw_data.specs.declared.entry.DataEntry.{DataEntry}
use Rattle.cw_data.specs.Body.{entry_bytes as data_body, IsEntry as IsDataEntry}
use Rattle.cw_data.specs.BodyReading.{entry_at as data_at}
use Rattle.cw_data.proofs.Bodies.{entry_takes as data_takes, entry_again as data_again}
use Rattle.cw_log.specs.Log.{length_of}
use Rattle.cw_log.specs.declared.fault.Harm.{Harm}
use Rattle.cw_log.specs.declared.fault.Harm.TheVariants.{Content, Unsafe}
use Rattle.cw_pair.specs.State.{bodies_of}
use Rattle.cw_model.specs.StandsFor.{Stored, Frames, AreRead, AreReadAs, AreSound, IsFirstLacking, IsFirstOf, allowing_of, safety_of}
use Rattle.cw_laws.specs.Openings.{IsLogFile}
use Rattle.cw_laws.proofs.OpenLogs.{bodies-spelled}
use Rattle.cw_open.specs.FoundFrames.{AreGates, FoundState, IsFound, IsFoundIn, StandsAt}
use Rattle.cw_open.specs.OpenedLogs.{IsReadLog}
use Rattle.cw_open.specs.Contents.{AreAllFound, AreFoundIn, AreReadLogs, GateLists, IsFoundOf, SaysWhatIsRead, frames_of, gates_in, gates_of}
use Rattle.cw_open.specs.Reopened.{CauseFrom, DiskFiles, FilesHold, FirstHarmFrom, FailedAt, OnReopenCause, TellAll, all_logs}
use Rattle.cw_open.specs.Judged.{AreFoundInSome, AreLogsOf, HasFirstHarm, IsChosenDisk, IsLogOf, IsMet, IsMetOn, IsSoundly, IsWhyNot, SaysMet, judged_of, side_in, stored_by}
use Rattle.cw_open.specs.declared.contents.Unreadable.{Unreadable}
use Rattle.cw_open.specs.declared.first_harm.FramePlace.{FramePlace}
use Rattle.cw_open.specs.declared.judged_disks.FrameHarm.{FrameHarm}
use Rattle.cw_open.specs.declared.judged_disks.JudgedDisks.{JudgedDisks}
use Rattle.cw_open.specs.declared.read_logs.ReadLogs.{ReadLogs}
use Rattle.cw_open.specs.declared.reopen_fault.ReopenFault.{ReopenFault}
use Rattle.cw_open.specs.declared.reopen_fault.ReopenCause.{ReopenCause}
use Rattle.cw_open.specs.declared.reopen_fault.ReopenCause.TheVariants.{Damaged, StoreFault, Memory}
use Rattle.cw_world.specs.Logs.{disk_of, list_in}
use Rattle.cw_laws.proofs.Opens.{stored-take}

-- ---- the gate of a frame

zip-length : {A B : Type 0} (R : A → B → Type 0) (xs : List A) (ys : List B) → AllZip R xs ys → length ys ≡ length xs
zip-length R [] [] all = refl
zip-length R [] (y ∷ ys) all = absurd all
zip-length R (x ∷ xs) [] all = absurd all
zip-length R (x ∷ xs) (y ∷ ys) all = omega (arith, zip-length R xs ys all.1)

lacking-within : {A : Type 0} (P : List A → A → Type 0) (xs : List A) (number : ℕ) → IsFirstLacking P xs number → number < length xs
lacking-within P xs number first = omega (arith, first.place, ap length first.split, length-append first.before (first.lacking ∷ first.behind))

module _ {A : Type 0} (at : Unread → Read A) (bodies : List (List ℕ)) (xs : List A) (read : AreReadAs at bodies xs) (P : List A → A → Type 0) where
  gate-of : (gates : List ℕ) → AreGates bodies gates → (number : ℕ) → IsFirstLacking P xs number → StandsAt bodies number (slice_index_or gates number 0)
  gate-of gates are number first = are.each number (omega (arith, lacking-within P xs number first, zip-length (λ body frame. body_at at body ≡ Some frame) bodies xs read))

module _ (stored : Stored) (frames : Frames) (gates : GateLists) (all : AreAllFound stored frames gates) where
  allowed-gate : (log : LogName) (number : ℕ) → (allowing_of frames log).lacks number → StandsAt (list_in log stored) number (slice_index_or (gates_in log gates) number 0)
  allowed-gate Config number first = gate-of records_at stored.config.frames frames.config all.read.config _ gates.config (all.places Config) number first
  allowed-gate Offsets number first = gate-of stored_at stored.offsets.frames frames.offsets all.read.offsets _ gates.offsets (all.places Offsets) number first
  allowed-gate Status number first = gate-of records_at stored.status.frames frames.status all.read.status _ gates.status (all.places Status) number first
  allowed-gate Txn number first = gate-of entries_at stored.txn frames.txn all.read.txn _ gates.txn (all.places Txn) number first
  allowed-gate Batches number first = gate-of data_at stored.batches frames.batches all.read.batches _ gates.batches (all.places Batches) number first

  safe-gate : (log : LogName) (number : ℕ) → (safety_of frames log).lacks number → StandsAt (list_in log stored) number (slice_index_or (gates_in log gates) number 0)
  safe-gate Config number first = gate-of records_at stored.config.frames frames.config all.read.config _ gates.config (all.places Config) number first
  safe-gate Offsets number first = gate-of stored_at stored.offsets.frames frames.offsets all.read.offsets _ gates.offsets (all.places Offsets) number first
  safe-gate Status number first = gate-of records_at stored.status.frames frames.status all.read.status _ gates.status (all.places Status) number first
  safe-gate Txn number first = gate-of entries_at stored.txn frames.txn all.read.txn _ gates.txn (all.places Txn) number first
  safe-gate Batches number first = gate-of data_at stored.batches frames.batches all.read.batches _ gates.batches (all.places Batches) number first

  pub not-allowed-met : (place : FramePlace) (at : ℕ) → at ≡ slice_index_or (gates_in place.log gates) place.at 0 → IsFirstOf (allowing_of frames) place.log place.at →
      IsMet stored (record { log = place.log; at = at; harm = Content })
  not-allowed-met place at is first = record {
    number = place.at;
    first = inr (record { frames = frames; read = all.read; first = first });
    gate = subst (StandsAt (list_in place.log stored) place.at) (sym is) (allowed-gate place.log place.at first.here);
  }

  pub unsafe-met : (place : FramePlace) (at : ℕ) → at ≡ slice_index_or (gates_in place.log gates) place.at 0 → AreSound (allowing_of frames) → IsFirstOf (safety_of frames) place.log place.at →
      IsMet stored (record { log = place.log; at = at; harm = Unsafe })
  unsafe-met place at is allowed first = record {
    number = place.at;
    first = record { frames = frames; read = all.read; allowed = allowed; first = first };
    gate = subst (StandsAt (list_in place.log stored) place.at) (sym is) (safe-gate place.log place.at first.here);
  }

-- ---- what was read is what is written

records-take : (body : List ℕ) (records : List Applied) → AreBytes body → body_at records_at body ≡ Some records → AreRecords records × (body ≡ records_bytes records)
records-take = body_takes records_at records_bytes AreRecords records_takes records_again

data-take : (body : List ℕ) (entry : DataEntry) → AreBytes body → body_at data_at body ≡ Some entry → IsDataEntry entry × (body ≡ data_body entry)
data-take = body_takes data_at data_body IsDataEntry data_takes data_again

-- a log that tells of itself what was found in it
log-of : {A : Type 0} (at : Unread → Read A) (found : FoundState A) (bodies list : List (List ℕ)) (told : Option (List (List ℕ))) (size bytes limit : ℕ) (shut : Bool) →
    IsReadLog at found told size bytes limit shut → IsFoundIn at found bodies → bodies ≡ list → ((own : List (List ℕ)) → IsFoundIn at found own → own ≡ list) →
    IsLogOf list told size bytes limit shut
log-of at found bodies list told size bytes limit shut log is same each = record {
  told = λ own here. each own (log.told own here);
  size_is = log.size_is ∙ is.count ∙ ap length same;
  bytes_are = log.bytes_are ∙ is.size ∙ ap length_of same;
  limit_is = log.limit_is;
  alive = log.alive;
}

-- the bodies in which this was found are those of a file
file-of : {A : Type 0} (at : Unread → Read A) (found : FoundState A) (some : IsFound at found) → found.size < 2 ^ 64 → IsLogFile some.bodies
file-of at found some few = let is : IsFoundIn at found some.bodies = some.«in» in
    record { bytes = is.bytes; size = subst (λ (n : ℕ). n < 2 ^ 64) is.size few }

module _ {D : Type 0} (logs : ReadLogs D) where
  spelled : (stored : Stored) → AreFoundIn logs stored → AreRead stored (frames_of logs) → stored ≡ stored_by (judged_of logs)
  spelled stored are read =
      let config = bodies-spelled records_at records_bytes AreRecords records-take stored.config.frames logs.config.found.frames are.config.bytes read.config in
      let offsets = bodies-spelled stored_at offset_body IsOffsetEntry stored-take stored.offsets.frames logs.offsets.found.frames are.offsets.bytes read.offsets in
      let status = bodies-spelled records_at records_bytes AreRecords records-take stored.status.frames logs.status.found.frames are.status.bytes read.status in
      let txn = bodies-spelled entries_at entries_bytes AreEntries entries-take stored.txn logs.txn.found.frames are.txn.bytes read.txn in
      let batches = bodies-spelled data_at data_body IsDataEntry data-take stored.batches logs.batches.found.frames are.batches.bytes read.batches in
      λ i. record {
        config = record { frames = config i; side = are.config_side i };
        offsets = record { frames = offsets i; side = are.offsets_side i };
        status = record { frames = status i; side = are.status_side i };
        txn = txn i;
        batches = batches i;
      }

  -- what is said of the logs and the frames, where these are those that were read
  module _ (unreadable : Option Unreadable) where
    abbrev Said : JudgedDisks D → GateLists → Option FrameHarm → Type 0
    Said judged gates met = (stored : Stored) → SaysWhatIsRead judged.frames gates stored unreadable → SaysMet stored judged.frames met

    module _ (judged : JudgedDisks D) (gates : GateLists) (same : judged ≡ judged_of logs) (same_gates : gates ≡ gates_of logs) where
      pub said-of : (met now : Option FrameHarm) → met ≡ now → Said judged gates met → Said (judged_of logs) (gates_of logs) now
      said-of met now is said = subst (Said (judged_of logs) (gates_of logs)) is
          (subst (λ (g : GateLists). Said (judged_of logs) g met) same_gates (subst (λ (j : JudgedDisks D). Said j gates met) same said))

      pub met-on : (found : Option FrameHarm) (met : FrameHarm) → found ≡ Some met → Said judged gates found → (at : DiskName) → at ≡ disk_of met.log (side_in met.log judged) →
          (stored : Stored) → SaysWhatIsRead (frames_of logs) (gates_of logs) stored unreadable → IsMetOn (judged_of logs) stored at met.at met.harm
      met-on found met some said at is stored read =
          let is_met : IsMet stored met = said-of found (Some met) some said stored read in
          record {
            log = met.log;
            number = is_met.number;
            first = is_met.first;
            disk_is = subst (λ (j : JudgedDisks D). at ≡ disk_of met.log (side_in met.log j)) same is;
            gate = is_met.gate;
          }

  -- there are bodies in which all of it was found
  pub found-in-some : IsFound records_at logs.config.found → logs.config.found.size < 2 ^ 64 → IsFound stored_at logs.offsets.found → logs.offsets.found.size < 2 ^ 64 →
      IsFound records_at logs.status.found → logs.status.found.size < 2 ^ 64 → IsFound entries_at logs.txn.found → logs.txn.found.size < 2 ^ 64 →
      IsFound data_at logs.batches.found → logs.batches.found.size < 2 ^ 64 → AreFoundInSome logs
  found-in-some config few_config offsets few_offsets status few_status txn few_txn batches few_batches = record {
    stored = record {
      config = record { frames = config.bodies; side = logs.config.log.log.number };
      offsets = record { frames = offsets.bodies; side = logs.offsets.log.log.number };
      status = record { frames = status.bodies; side = logs.status.log.log.number };
      txn = txn.bodies;
      batches = batches.bodies;
    };
    found = record {
      config = config.«in»;
      offsets = offsets.«in»;
      status = status.«in»;
      txn = txn.«in»;
      batches = batches.«in»;
      config_side = refl;
      offsets_side = refl;
      status_side = refl;
    };
    files = record {
      config = file-of records_at logs.config.found config few_config;
      offsets = file-of stored_at logs.offsets.found offsets few_offsets;
      status = file-of records_at logs.status.found status few_status;
      txn = file-of entries_at logs.txn.found txn few_txn;
      batches = file-of data_at logs.batches.found batches few_batches;
    };
  }

  module _ (unreadable : Option Unreadable) (what : (stored : Stored) → AreFoundIn logs stored → SaysWhatIsRead (frames_of logs) (gates_of logs) stored unreadable) where
    module _ (sound : (stored : Stored) → SaysWhatIsRead (frames_of logs) (gates_of logs) stored unreadable → SaysMet stored (frames_of logs) None) where
      written : (stored : Stored) → AreFoundIn logs stored → stored ≡ stored_by (judged_of logs)
      written stored are = spelled stored are (sound stored (what stored are)).0

      holds-written : (files : DiskFiles) → IsFoundOf files logs → FilesHold files (stored_by (judged_of logs))
      holds-written files of = subst (FilesHold files) (written of.stored of.found) of.hold

      module _ (some : AreFoundInSome logs) where
        soundly : IsSoundly (stored_by (judged_of logs)) (frames_of logs)
        soundly =
            let met : SaysMet some.stored (frames_of logs) None = sound some.stored (what some.stored some.found) in
            subst (λ (s : Stored). IsSoundly s (frames_of logs)) (written some.stored some.found) (record { files = some.files; read = met.0; allowed = met.1; safe = met.2 })

        -- whatever other bodies this was found in
        config-again : (own : List (List ℕ)) → IsFoundIn records_at logs.config.found own → own ≡ map records_bytes logs.config.found.frames
        config-again own is = ap (λ (s : Stored). s.config.frames) (written (record some.stored { config = record { frames = own; side = some.stored.config.side } }) (record { config = is; offsets = some.found.offsets; status = some.found.status; txn = some.found.txn; batches = some.found.batches; config_side = some.found.config_side; offsets_side = some.found.offsets_side; status_side = some.found.status_side }))

        offsets-again : (own : List (List ℕ)) → IsFoundIn stored_at logs.offsets.found own → own ≡ map offset_body logs.offsets.found.frames
        offsets-again own is = ap (λ (s : Stored). s.offsets.frames) (written (record some.stored { offsets = record { frames = own; side = some.stored.offsets.side } }) (record { config = some.found.config; offsets = is; status = some.found.status; txn = some.found.txn; batches = some.found.batches; config_side = some.found.config_side; offsets_side = some.found.offsets_side; status_side = some.found.status_side }))

        status-again : (own : List (List ℕ)) → IsFoundIn records_at logs.status.found own → own ≡ map records_bytes logs.status.found.frames
        status-again own is = ap (λ (s : Stored). s.status.frames) (written (record some.stored { status = record { frames = own; side = some.stored.status.side } }) (record { config = some.found.config; offsets = some.found.offsets; status = is; txn = some.found.txn; batches = some.found.batches; config_side = some.found.config_side; offsets_side = some.found.offsets_side; status_side = some.found.status_side }))

        txn-again : (own : List (List ℕ)) → IsFoundIn entries_at logs.txn.found own → own ≡ map entries_bytes logs.txn.found.frames
        txn-again own is = ap (λ (s : Stored). s.txn) (written (record some.stored { txn = own }) (record { config = some.found.config; offsets = some.found.offsets; status = some.found.status; txn = is; batches = some.found.batches; config_side = some.found.config_side; offsets_side = some.found.offsets_side; status_side = some.found.status_side }))

        batches-again : (own : List (List ℕ)) → IsFoundIn data_at logs.batches.found own → own ≡ map data_body logs.batches.found.frames
        batches-again own is = ap (λ (s : Stored). s.batches) (written (record some.stored { batches = own }) (record { config = some.found.config; offsets = some.found.offsets; status = some.found.status; txn = some.found.txn; batches = is; config_side = some.found.config_side; offsets_side = some.found.offsets_side; status_side = some.found.status_side }))

        are-logs : (G : Ghosts D) → AreReadLogs G logs → AreLogsOf G (stored_by (judged_of logs)) (judged_of logs)
        are-logs G are = record {
          config = log-of records_at logs.config.found some.stored.config.frames (map records_bytes logs.config.found.frames) (bodies_of G logs.config.log) logs.config.log.log.count logs.config.log.log.length logs.config.log.log.limit logs.config.log.log.shut are.config some.found.config (config-again some.stored.config.frames some.found.config) config-again;
          offsets = log-of stored_at logs.offsets.found some.stored.offsets.frames (map offset_body logs.offsets.found.frames) (bodies_of G logs.offsets.log) logs.offsets.log.log.count logs.offsets.log.log.length logs.offsets.log.log.limit logs.offsets.log.log.shut are.offsets some.found.offsets (offsets-again some.stored.offsets.frames some.found.offsets) offsets-again;
          status = log-of records_at logs.status.found some.stored.status.frames (map records_bytes logs.status.found.frames) (bodies_of G logs.status.log) logs.status.log.log.count logs.status.log.log.length logs.status.log.log.limit logs.status.log.log.shut are.status some.found.status (status-again some.stored.status.frames some.found.status) status-again;
          txn = log-of entries_at logs.txn.found some.stored.txn (map entries_bytes logs.txn.found.frames) logs.txn.log.bodies logs.txn.log.count logs.txn.log.length logs.txn.log.limit logs.txn.log.shut are.txn some.found.txn (txn-again some.stored.txn some.found.txn) txn-again;
          batches = log-of data_at logs.batches.found some.stored.batches (map data_body logs.batches.found.frames) logs.batches.log.bodies logs.batches.log.count logs.batches.log.length logs.batches.log.limit logs.batches.log.shut are.batches some.found.batches (batches-again some.stored.batches some.found.batches) batches-again;
        }

    -- ---- what is answered

    abbrev Sounds : Type 0
    Sounds = (stored : Stored) → SaysWhatIsRead (frames_of logs) (gates_of logs) stored unreadable → SaysMet stored (frames_of logs) None

    module _ {E : Type 0} where
      pub answers-soundly : (r : Result (JudgedDisks D) E) → IfOk r (λ judged. judged ≡ judged_of logs) → IfOk r (λ _. AreFoundInSome logs) → IfOk r (λ _. Sounds) →
          IfOk r (λ judged. IsSoundly (stored_by judged) judged.frames)
      answers-soundly (Ok judged) same some sound = subst (λ (j : JudgedDisks D). IsSoundly (stored_by j) j.frames) (sym same) (soundly sound some)
      answers-soundly (Err fault) same some sound = tt

      pub answers-logs : (G : Ghosts D) → AreReadLogs G logs → (r : Result (JudgedDisks D) E) → IfOk r (λ judged. judged ≡ judged_of logs) → IfOk r (λ _. AreFoundInSome logs) → IfOk r (λ _. Sounds) →
          IfOk r (λ judged. AreLogsOf G (stored_by judged) judged)
      answers-logs G are (Ok judged) same some sound = subst (λ (j : JudgedDisks D). AreLogsOf G (stored_by j) j) (sym same) (are-logs sound some G are)
      answers-logs G are (Err fault) same some sound = tt

      pub answers-files : (G : Ghosts D) (disks : Disks D) → ((files : DiskFiles) → TellAll G disks files → IsFoundOf files logs) → (r : Result (JudgedDisks D) E) →
          IfOk r (λ judged. judged ≡ judged_of logs) → IfOk r (λ _. Sounds) → IfOk r (λ judged. (files : DiskFiles) → TellAll G disks files → FilesHold files (stored_by judged))
      answers-files G disks of (Ok judged) same sound = λ files tell.
          subst (λ (j : JudgedDisks D). FilesHold files (stored_by j)) (sym same) (holds-written sound files (of files tell))
      answers-files G disks of (Err fault) same sound = tt

    -- the disk of the side that was opened is that of the chosen one
    chosen : (files : DiskFiles) → IsFoundOf files logs → (log : LogName) (at : DiskName) → at ≡ disk_of log (side_in log (judged_of logs)) → IsChosenDisk files log at
    chosen files of Config at is = record { on_b = logs.config.log.on_b; right = of.sides.config; disk_is = is }
    chosen files of Offsets at is = record { on_b = logs.offsets.log.on_b; right = of.sides.offsets; disk_is = is }
    chosen files of Status at is = record { on_b = logs.status.log.on_b; right = of.sides.status; disk_is = is }
    chosen files of Txn at is = is
    chosen files of Batches at is = is

    abbrev Meets : DiskName → ℕ → Harm → Type 0
    Meets at place harm = (stored : Stored) → SaysWhatIsRead (frames_of logs) (gates_of logs) stored unreadable → IsMetOn (judged_of logs) stored at place harm

    module _ (G : Ghosts D) (disks : Disks D) (of : (files : DiskFiles) → TellAll G disks files → IsFoundOf files logs) where
      why-not : (now : Disks D) (cause : ReopenCause) → OnReopenCause Meets (λ at count. ⊥) (Unit {0}) cause →
          OnReopenCause (λ at place harm. (files : DiskFiles) → TellAll G disks files → HasFirstHarm files at place harm) (FailedAt G.count disks now) (Unit {0}) cause
      why-not now (Damaged at place harm) meets = λ files tell.
          let found : IsFoundOf files logs = of files tell in
          let met : IsMetOn (judged_of logs) found.stored at place harm = meets found.stored (what found.stored found.found) in
          inr (record {
            stored = found.stored;
            hold = found.hold;
            log = met.log;
            number = met.number;
            first = met.first;
            chosen = chosen files found met.log at met.disk_is;
            gate = met.gate;
          })
      why-not now (StoreFault at count) never = absurd never
      why-not now Memory none = tt

      pub answers-why : {A : Type 0} (r : Result A (ReopenFault D)) → IfErr r (λ fault. OnReopenCause Meets (λ at count. ⊥) (Unit {0}) fault.cause) → IfErr r (IsWhyNot G disks)
      answers-why (Ok judged) why = tt
      answers-why (Err fault) why = why-not fault.disks fault.cause why

-- the files themselves were harmed, or a disk failed
pub files-why : {D : Type 0} (G : Ghosts D) (disks : Disks D) (fault : ReopenFault D) → CauseFrom G all_logs disks fault → IsWhyNot G disks fault
files-why G disks fault = by fault.cause
  where
    by : (cause : ReopenCause) → OnReopenCause (λ at place harm. (files : DiskFiles) → TellAll G disks files → FirstHarmFrom files all_logs at place harm) (FailedAt G.count disks fault.disks) (Unit {0}) cause →
        OnReopenCause (λ at place harm. (files : DiskFiles) → TellAll G disks files → HasFirstHarm files at place harm) (FailedAt G.count disks fault.disks) (Unit {0}) cause
    by (Damaged at place harm) first = λ files tell. inl (first files tell)
    by (StoreFault at count) failed = failed
    by Memory none = none
