-- What was found in each log, put together: all bodies are read, or the first that can't be.
use Rattle.std.proofs.Common.{◌≡◌, ℕ, List, [], Option, Some, None, refl, subst}
use Rattle.cw_types.specs.declared.logs.LogName.{LogName}
use Rattle.cw_types.specs.declared.logs.LogName.TheVariants.{Config, Offsets, Status, Txn, Batches}
use Rattle.cw_bytes.specs.Frames.{EachFrom}
use Rattle.cw_bytes.specs.Unread.{Unread}
use Rattle.cw_bytes.specs.Reading.{Read, records_at}
use Rattle.cw_offset.specs.BodyReading.{entry_at as stored_at}
use Rattle.cw_data.specs.BodyReading.{entry_at as data_at}
use Rattle.cw_txn.specs.BodyReading.{entries_at}
use Rattle.cw_model.specs.StandsFor.{Stored, AreReadAs, IsReadable, reading_of}
use Rattle.cw_open.specs.FoundFrames.{FoundState, HasFound, AreFound, AreGates, IsFirstUnread, IsFoundIn}
use Rattle.cw_open.specs.Contents.{AreAllFound, AreChosen, AreFoundIn, IsFirstUnreadable, IsFoundOf, frames_of, gates_in, gates_of}
use Rattle.cw_open.specs.declared.read_logs.ReadLogs.{ReadLogs}
use Rattle.cw_log.specs.Log.{kind_of}
use Rattle.cw_open.specs.OpenedLogs.{HasPairFound, HasTopicFound}
use Rattle.cw_open.specs.Reopened.{DiskFiles}
use Rattle.cw_open.proofs.FoundLemmas.{readable}
use Rattle.cw_world.specs.Logs.{list_in}

-- a log in which none is unreadable is read, and its gates stand where they were found
all-of : {A : Type 0} (at : Unread → Read A) (found : FoundState A) (bodies : List (List ℕ)) → IsFoundIn at found bodies → found.unread ≡ None → AreFound at found.frames found.gates bodies
all-of at found bodies is none = subst (λ (o : Option ℕ). HasFound at found.frames found.gates o bodies) none is.has

all-found : {A : Type 0} (at : Unread → Read A) (found : FoundState A) (bodies : List (List ℕ)) → IsFoundIn at found bodies → found.unread ≡ None → AreReadAs at bodies found.frames
all-found at found bodies is none = let has : AreFound at found.frames found.gates bodies = all-of at found bodies is none in has.read

all-gates : {A : Type 0} (at : Unread → Read A) (found : FoundState A) (bodies : List (List ℕ)) → IsFoundIn at found bodies → found.unread ≡ None → AreGates bodies found.gates
all-gates at found bodies is none = let has : AreFound at found.frames found.gates bodies = all-of at found bodies is none in has.places

all-readable : {A : Type 0} (at : Unread → Read A) (found : FoundState A) (bodies : List (List ℕ)) → IsFoundIn at found bodies → found.unread ≡ None → EachFrom (IsReadable at) [] bodies
all-readable at found bodies is none = readable at [] bodies found.frames (all-found at found bodies is none)

one-unread : {A : Type 0} (at : Unread → Read A) (found : FoundState A) (bodies : List (List ℕ)) (gate : ℕ) → IsFoundIn at found bodies → found.unread ≡ Some gate → IsFirstUnread at gate bodies
one-unread at found bodies gate is one = subst (λ (o : Option ℕ). HasFound at found.frames found.gates o bodies) one is.has

module _ {D : Type 0} (logs : ReadLogs D) (stored : Stored) (are : AreFoundIn logs stored) where
  module _ (no_config : logs.config.found.unread ≡ None) where
    config-read : (reading_of stored Config).sound
    config-read = all-readable records_at logs.config.found stored.config.frames are.config no_config

    pub unread-offsets : (gate : ℕ) → logs.offsets.found.unread ≡ Some gate → IsFirstUnreadable stored (record { log = Offsets; at = gate })
    unread-offsets gate one = let first = one-unread stored_at logs.offsets.found stored.offsets.frames gate are.offsets one in
        record { number = first.number; first = record { earlier = (config-read, tt); here = first.first }; place = first.place }

    module _ (no_offsets : logs.offsets.found.unread ≡ None) where
      offsets-read : (reading_of stored Offsets).sound
      offsets-read = all-readable stored_at logs.offsets.found stored.offsets.frames are.offsets no_offsets

      pub unread-status : (gate : ℕ) → logs.status.found.unread ≡ Some gate → IsFirstUnreadable stored (record { log = Status; at = gate })
      unread-status gate one = let first = one-unread records_at logs.status.found stored.status.frames gate are.status one in
          record { number = first.number; first = record { earlier = (config-read, (offsets-read, tt)); here = first.first }; place = first.place }

      module _ (no_status : logs.status.found.unread ≡ None) where
        status-read : (reading_of stored Status).sound
        status-read = all-readable records_at logs.status.found stored.status.frames are.status no_status

        pub unread-txn : (gate : ℕ) → logs.txn.found.unread ≡ Some gate → IsFirstUnreadable stored (record { log = Txn; at = gate })
        unread-txn gate one = let first = one-unread entries_at logs.txn.found stored.txn gate are.txn one in
            record { number = first.number; first = record { earlier = (config-read, (offsets-read, (status-read, tt))); here = first.first }; place = first.place }

        module _ (no_txn : logs.txn.found.unread ≡ None) where
          txn-read : (reading_of stored Txn).sound
          txn-read = all-readable entries_at logs.txn.found stored.txn are.txn no_txn

          pub unread-batches : (gate : ℕ) → logs.batches.found.unread ≡ Some gate → IsFirstUnreadable stored (record { log = Batches; at = gate })
          unread-batches gate one = let first = one-unread data_at logs.batches.found stored.batches gate are.batches one in
              record { number = first.number; first = record { earlier = (config-read, (offsets-read, (status-read, (txn-read, tt)))); here = first.first }; place = first.place }

          module _ (no_batches : logs.batches.found.unread ≡ None) where
            gates-stand : (log : LogName) → AreGates (list_in log stored) (gates_in log (gates_of logs))
            gates-stand Config = all-gates records_at logs.config.found stored.config.frames are.config no_config
            gates-stand Offsets = all-gates stored_at logs.offsets.found stored.offsets.frames are.offsets no_offsets
            gates-stand Status = all-gates records_at logs.status.found stored.status.frames are.status no_status
            gates-stand Txn = all-gates entries_at logs.txn.found stored.txn are.txn no_txn
            gates-stand Batches = all-gates data_at logs.batches.found stored.batches are.batches no_batches

            pub all-read : AreAllFound stored (frames_of logs) (gates_of logs)
            all-read = record {
              read = record {
                config = all-found records_at logs.config.found stored.config.frames are.config no_config;
                offsets = all-found stored_at logs.offsets.found stored.offsets.frames are.offsets no_offsets;
                status = all-found records_at logs.status.found stored.status.frames are.status no_status;
                txn = all-found entries_at logs.txn.found stored.txn are.txn no_txn;
                batches = all-found data_at logs.batches.found stored.batches are.batches no_batches;
              };
              places = gates-stand;
            }

-- files that stand for what was found hold what is stored, which was found
pub stored-by : {D : Type 0} (files : DiskFiles) (logs : ReadLogs D) →
    HasPairFound records_at (kind_of Config) logs.config.log.log.number logs.config.found files.config_a files.config_b →
    HasPairFound stored_at (kind_of Offsets) logs.offsets.log.log.number logs.offsets.found files.offsets_a files.offsets_b →
    HasPairFound records_at (kind_of Status) logs.status.log.log.number logs.status.found files.status_a files.status_b →
    HasTopicFound entries_at (kind_of Txn) logs.txn.found files.txn →
    HasTopicFound data_at (kind_of Batches) logs.batches.found files.batches →
    AreChosen files logs → IsFoundOf files logs
stored-by files logs config offsets status txn batches sides = record {
  stored = record {
    config = record { frames = config.bodies; side = logs.config.log.log.number };
    offsets = record { frames = offsets.bodies; side = logs.offsets.log.log.number };
    status = record { frames = status.bodies; side = logs.status.log.log.number };
    txn = txn.bodies;
    batches = batches.bodies;
  };
  hold = record {
    config = record { stands = config.stands; on_b = config.on_b; numbered = config.numbered };
    offsets = record { stands = offsets.stands; on_b = offsets.on_b; numbered = offsets.numbered };
    status = record { stands = status.stands; on_b = status.on_b; numbered = status.numbered };
    txn = txn.stands;
    batches = batches.stands;
  };
  found = record {
    config = config.«in»;
    offsets = offsets.«in»;
    status = status.«in»;
    txn = txn.«in»;
    batches = batches.«in»;
    config_side = refl;
    offsets_side = refl;
    status_side = refl;
  };
  sides = sides;
}
