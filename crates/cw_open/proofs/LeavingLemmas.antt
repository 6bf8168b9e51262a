-- Files that stand for the lists of a state have no harm, and are opened as that state.
use Rattle.std.proofs.Common.{◌≡◌, inl, inr, ℕ, List, [], ◌∷◌, Some, IsSome, refl, sym, ap, subst, ◌∙◌}
use Rattle.cw_types.specs.declared.logs.LogName.{LogName}
use Rattle.cw_types.specs.declared.logs.LogName.TheVariants.{Config, Offsets, Status, Txn, Batches}
use Rattle.cw_types.specs.declared.logs.DiskName.{DiskName}
use Rattle.cw_disk.specs.declared.device.Disk.{Ghosts}
use Rattle.cw_disk.specs.declared.disks.Disks.{Disks}
use Rattle.cw_bytes.specs.declared.applied.Applied.{Applied}
use Rattle.cw_offset.specs.declared.body.OffsetEntry.{OffsetEntry}
use Rattle.cw_log.specs.Log.{StandsFor, kind_of}
use Rattle.cw_log.specs.State.{LogState}
use Rattle.cw_log.specs.declared.fault.Harm.{Harm}
use Rattle.cw_log.proofs.OneReading.{sound, stands_for_one}
use Rattle.cw_pair.specs.Pair.{PairStandsFor}
use Rattle.cw_pair.specs.State.{PairState, bodies_of}
use Rattle.cw_pair.proofs.Pairs.{pair_one, pair_sound}
use Rattle.cw_model.specs.State.{Cluster, Paired}
use Rattle.cw_model.specs.Reopening.{stored_of}
use Rattle.cw_model.specs.StandsFor.{Stored, StandFor}
use Rattle.cw_model.proofs.Stored.{StandFor-one}
use Rattle.cw_laws.proofs.NoHarm.{no-harm}
use Rattle.cw_world.specs.Ending.{LeavesLog, LeavesPair, LeaveStored}
use Rattle.cw_world.specs.Logs.{LogsState, view_in}
use Rattle.cw_open.specs.Judged.{HasFirstHarm, HasFrameHarm}
use Rattle.cw_open.specs.Leaving.{HaveKinds, IsSameBesidesSides, LeaveLists, MayLeaveAll, StandForLists, on_sides}
use Rattle.cw_open.specs.Reopened.{DiskFiles, FilesHold, FirstHarmFrom, HasFileHarm, HasPairHarm, HasTopicHarm, all_logs}
use Rattle.cw_laws.proofs.CompactConfigs.{some_value}

-- ---- files that stand for lists

pair-harmless : (name : LogName) (bodies : List (List ℕ)) (a b : List ℕ) (at : DiskName) (place : ℕ) (harm : Harm) → PairStandsFor (kind_of name) bodies a b → HasPairHarm name a b at place harm → ⊥
pair-harmless name bodies a b at place harm stands has = pair_sound (kind_of name) bodies a b has.side place harm stands has.harm_is

topic-harmless : (name : LogName) (bodies : List (List ℕ)) (file : List ℕ) (at : DiskName) (place : ℕ) (harm : Harm) → StandsFor (kind_of name) bodies file → HasTopicHarm name file at place harm → ⊥
topic-harmless name bodies file at place harm stands has = sound (kind_of name) bodies file place harm stands has.harm_is

-- files that hold what is stored stand for its lists
pub holds-lists : (files : DiskFiles) (stored : Stored) → FilesHold files stored → StandForLists files stored
holds-lists files stored hold = record {
  config = hold.config.stands;
  offsets = hold.offsets.stands;
  status = hold.status.stands;
  txn = hold.txn;
  batches = hold.batches;
}

-- what is stored, on sides with other numbers
abbrev stored_on : (config offsets status : ℕ) → Stored → Stored
stored_on config offsets status stored = record stored {
  config = record { frames = stored.config.frames; side = config };
  offsets = record { frames = stored.offsets.frames; side = offsets };
  status = record { frames = stored.status.frames; side = status };
}

module _ (files : DiskFiles) (stored : Stored) (lists : StandForLists files stored) where
  file-harmless : (log : LogName) (at : DiskName) (place : ℕ) (harm : Harm) → HasFileHarm files log at place harm → ⊥
  file-harmless Config at place harm = pair-harmless Config stored.config.frames files.config_a files.config_b at place harm lists.config
  file-harmless Offsets at place harm = pair-harmless Offsets stored.offsets.frames files.offsets_a files.offsets_b at place harm lists.offsets
  file-harmless Status at place harm = pair-harmless Status stored.status.frames files.status_a files.status_b at place harm lists.status
  file-harmless Txn at place harm = topic-harmless Txn stored.txn files.txn at place harm lists.txn
  file-harmless Batches at place harm = topic-harmless Batches stored.batches files.batches at place harm lists.batches

  files-harmless : (logs : List LogName) (at : DiskName) (place : ℕ) (harm : Harm) → FirstHarmFrom files logs at place harm → ⊥
  files-harmless [] at place harm none = none
  files-harmless (log ∷ logs) at place harm (inl has) = file-harmless log at place harm has
  files-harmless (log ∷ logs) at place harm (inr later) = files-harmless logs at place harm later.1

  -- other lists for which they stand are the same
  same-stored : (other : Stored) → StandForLists files other → other ≡ stored_on other.config.side other.offsets.side other.status.side stored
  same-stored other stand =
      let config : other.config.frames ≡ stored.config.frames = pair_one (kind_of Config) other.config.frames stored.config.frames files.config_a files.config_b stand.config lists.config in
      let offsets : other.offsets.frames ≡ stored.offsets.frames = pair_one (kind_of Offsets) other.offsets.frames stored.offsets.frames files.offsets_a files.offsets_b stand.offsets lists.offsets in
      let status : other.status.frames ≡ stored.status.frames = pair_one (kind_of Status) other.status.frames stored.status.frames files.status_a files.status_b stand.status lists.status in
      let txn : other.txn ≡ stored.txn = stands_for_one (kind_of Txn) other.txn stored.txn files.txn stand.txn lists.txn in
      let batches : other.batches ≡ stored.batches = stands_for_one (kind_of Batches) other.batches stored.batches files.batches stand.batches lists.batches in
      λ i. record {
        config = record { frames = config i; side = other.config.side };
        offsets = record { frames = offsets i; side = other.offsets.side };
        status = record { frames = status i; side = other.status.side };
        txn = txn i;
        batches = batches i;
      }

-- ---- what is stored stands for a state, whatever the numbers of its sides are

stand-on : (stored : Stored) (s : Cluster) (config offsets status : ℕ) → StandFor stored s → StandFor (stored_on config offsets status stored) (on_sides config offsets status s)
stand-on stored s config offsets status stand = record {
  frames = stand.frames;
  read = record { config = stand.read.config; offsets = stand.read.offsets; status = stand.read.status; txn = stand.read.txn; batches = stand.read.batches };
  allowed = stand.allowed;
  safe = stand.safe;
  holds = record {
    config = ap (λ (l : Paired (List Applied)). record { frames = l.frames; side = config }) stand.holds.config;
    offsets = ap (λ (l : Paired OffsetEntry). record { frames = l.frames; side = offsets }) stand.holds.offsets;
    status = ap (λ (l : Paired (List Applied)). record { frames = l.frames; side = status }) stand.holds.status;
    txn = stand.holds.txn;
    batches = stand.holds.batches;
  };
  opened = record {
    configs = stand.opened.configs;
    statuses = stand.opened.statuses;
    entries = stand.opened.entries;
    group = stand.opened.group;
    lost = stand.opened.lost;
    delay = stand.opened.delay;
    moment = stand.opened.moment;
    rows = stand.opened.rows;
    instances = stand.opened.instances;
    journal = stand.opened.journal;
    closed = stand.opened.closed;
  };
}

module _ (files : DiskFiles) (stored : Stored) (s : Cluster) (lists : StandForLists files stored) (stand : StandFor stored s) where
  -- what else the files stand for stands for the state, too
  other-stands : (other : Stored) → StandForLists files other → StandFor other (on_sides other.config.side other.offsets.side other.status.side s)
  other-stands other also =
      subst (λ (l : Stored). StandFor l (on_sides other.config.side other.offsets.side other.status.side s)) (sym (same-stored files stored lists other also))
      (stand-on stored s other.config.side other.offsets.side other.status.side stand)

  pub same-besides-sides : (t : Cluster) → StandFor (stored_of t) t → FilesHold files (stored_of t) → IsSameBesidesSides s t
  same-besides-sides t stands hold =
      StandFor-one (stored_of t) t (on_sides t.config.side t.offsets.side t.status.side s) stands (other-stands (stored_of t) (holds-lists files (stored_of t) hold))

  -- any state for which they stand
  pub same-of-lists : (other : Stored) (t : Cluster) → StandForLists files other → StandFor other t → IsSameBesidesSides s t
  same-of-lists other t also stands =
      let config : t.config.side ≡ other.config.side = ap (λ (l : Paired (List Applied)). l.side) stands.holds.config in
      let offsets : t.offsets.side ≡ other.offsets.side = ap (λ (l : Paired OffsetEntry). l.side) stands.holds.offsets in
      let status : t.status.side ≡ other.status.side = ap (λ (l : Paired (List Applied)). l.side) stands.holds.status in
      StandFor-one other t (on_sides other.config.side other.offsets.side other.status.side s) stands (other-stands other also) ∙
      sym (λ i. on_sides (config i) (offsets i) (status i) s)

  frames-harmless : (at : DiskName) (place : ℕ) (harm : Harm) → HasFrameHarm files at place harm → ⊥
  frames-harmless at place harm has =
      no-harm has.stored (on_sides has.stored.config.side has.stored.offsets.side has.stored.status.side s) (other-stands has.stored (holds-lists files has.stored has.hold))
      has.log has.number harm has.first

  pub no-first-harm : (at : DiskName) (place : ℕ) (harm : Harm) → HasFirstHarm files at place harm → ⊥
  no-first-harm at place harm (inl has) = files-harmless files stored lists all_logs at place harm has
  no-first-harm at place harm (inr has) = frames-harmless at place harm has

-- ---- what a stop leaves of a world that ended

pair-lists : {D : Type 0} (G : Ghosts D) (name : LogName) (pair : PairState D) (a b : D) (list : List (List ℕ)) (image_a image_b : List ℕ) → pair.log.kind ≡ kind_of name → IsSome (bodies_of G pair) →
    LeavesPair G pair a b list → G.may_leave a image_a → G.may_leave b image_b → PairStandsFor (kind_of name) list image_a image_b
pair-lists G name pair a b list image_a image_b kind tells leaves left_a left_b =
    let told = some_value (bodies_of G pair) tells in
    subst (λ (k : ℕ). PairStandsFor k list image_a image_b) kind (leaves told.0 told.1 image_a image_b left_a left_b)

topic-lists : {D : Type 0} (G : Ghosts D) (name : LogName) (log : LogState D) (disk : D) (list : List (List ℕ)) (image : List ℕ) → log.kind ≡ kind_of name → IsSome log.bodies →
    LeavesLog G log disk list → G.may_leave disk image → StandsFor (kind_of name) list image
topic-lists G name log disk list image kind tells leaves left =
    let told = some_value log.bodies tells in subst (λ (k : ℕ). StandsFor k list image) kind (leaves told.0 told.1 image left)

pub ended-lists : {D : Type 0} (G : Ghosts D) (logs : LogsState D) (disks : Disks D) (stored : Stored) → HaveKinds logs → ((log : LogName) → IsSome (view_in G log logs).bodies) →
    LeaveStored G stored logs disks → LeaveLists G disks stored
ended-lists G logs disks stored kinds tell leave = λ images left. record {
  config = pair-lists G Config logs.config disks.config_a disks.config_b stored.config.frames images.config_a images.config_b kinds.config (tell Config) leave.config left.config_a left.config_b;
  offsets = pair-lists G Offsets logs.offsets disks.offsets_a disks.offsets_b stored.offsets.frames images.offsets_a images.offsets_b kinds.offsets (tell Offsets) leave.offsets left.offsets_a left.offsets_b;
  status = pair-lists G Status logs.status disks.status_a disks.status_b stored.status.frames images.status_a images.status_b kinds.status (tell Status) leave.status left.status_a left.status_b;
  txn = topic-lists G Txn logs.txn disks.txn stored.txn images.txn kinds.txn (tell Txn) leave.txn left.txn;
  batches = topic-lists G Batches logs.batches disks.batches stored.batches images.batches kinds.batches (tell Batches) leave.batches left.batches;
}

-- what the disks tell that they hold is among what a stop may leave
pub told-left : {D : Type 0} (G : Ghosts D) (as_read : (disk : D) (file : List ℕ) → G.holds disk ≡ Some file → G.may_leave disk file) (disks : Disks D) (files : DiskFiles) →
    (G.holds disks.config_a ≡ Some files.config_a) × (G.holds disks.config_b ≡ Some files.config_b) → (G.holds disks.offsets_a ≡ Some files.offsets_a) × (G.holds disks.offsets_b ≡ Some files.offsets_b) →
    (G.holds disks.status_a ≡ Some files.status_a) × (G.holds disks.status_b ≡ Some files.status_b) → G.holds disks.txn ≡ Some files.txn → G.holds disks.batches ≡ Some files.batches → MayLeaveAll G disks files
told-left G as_read disks files config offsets status txn batches = record {
  config_a = as_read disks.config_a files.config_a config.0;
  config_b = as_read disks.config_b files.config_b config.1;
  offsets_a = as_read disks.offsets_a files.offsets_a offsets.0;
  offsets_b = as_read disks.offsets_b files.offsets_b offsets.1;
  status_a = as_read disks.status_a files.status_a status.0;
  status_b = as_read disks.status_b files.status_b status.1;
  txn = as_read disks.txn files.txn txn;
  batches = as_read disks.batches files.batches batches;
}
