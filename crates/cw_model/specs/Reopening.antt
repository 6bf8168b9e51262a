-- What the log files hold at a moment and open to, and what a disk that fails and want of memory do to an event. All
-- of it is this project's own, as are the files.
use Rattle.std.specs.Prelude.{◌≡◌, ◌⊎◌, ℕ, List, [], map, Some, None, Err}
use Rattle.cw_types.specs.declared.logs.DiskName.{DiskName}
use Rattle.cw_bytes.specs.Spelling.{records_bytes}
use Rattle.cw_bytes.specs.Frames.{joined}
use Rattle.cw_config.specs.Compaction.{configs_in}
use Rattle.cw_assign.specs.declared.delay.Delay.TheVariants.{Idle}
use Rattle.cw_group.specs.Group.{empty_group}
use Rattle.cw_txn.specs.Body.{entries_bytes}
use Rattle.cw_offset.specs.Body.{entry_bytes as offset_body}
use Rattle.cw_data.specs.Body.{entry_bytes as data_body}
use Rattle.cw_model.specs.declared.fault.WorldFault.TheVariants.{Memory, StoreFault}
use Rattle.cw_model.specs.State.{Cluster, Paired}
use Rattle.cw_model.specs.Bodies.{statuses_in}
use Rattle.cw_model.specs.Answers.{Answer, refused}
use Rattle.cw_model.specs.StandsFor.{Stored}

-- ---- the logs of a state

-- a log of two sides, each frame as the body that is written for it
abbrev pub bodies_of : {A : Type 0} → (A → List ℕ) → Paired A → Paired (List ℕ)
bodies_of body log = record { frames = map body log.frames; side = log.side }

-- what the files hold of a state
abbrev pub stored_of : Cluster → Stored
stored_of s = record {
  config = bodies_of records_bytes s.config;
  offsets = bodies_of offset_body s.offsets;
  status = bodies_of records_bytes s.status;
  txn = map entries_bytes s.txn;
  batches = map data_body s.batches;
}

-- the state that these logs open to: no worker is there, and nothing was done yet
abbrev pub reopened : Cluster → Cluster
reopened s = record {
  config = s.config;
  offsets = s.offsets;
  status = s.status;
  txn = s.txn;
  batches = s.batches;
  configs = configs_in s.config.frames;
  statuses = statuses_in s.status.frames;
  entries = joined s.txn;
  group = empty_group;
  lost = [];
  delay = Idle;
  moment = 0;
  rows = [];
  instances = [];
  journal = [];
  closed = None;
}

-- ---- events that aren't done

-- a disk failed: all writing has ended, and the state is as before else
abbrev pub closed_by : DiskName → (count : ℕ) → Cluster → Cluster
closed_by disk count s = record s { closed = Some (disk, count) }

-- what an event may do in place of what it answers: memory runs out, and the state stays; or a disk fails, and the
-- state stays, closed. Only an event that would be done meets either; one that is refused is refused
abbrev pub runs_out : {A : Type 0} → Cluster → Answer A
runs_out s = refused Memory s

abbrev pub fails_on : {A : Type 0} → DiskName → (count : ℕ) → Cluster → Answer A
fails_on disk count s = (Err (StoreFault disk count), closed_by disk count s)

-- what a disk that failed may hold: the logs before the event, or those behind it, and nothing between
abbrev pub IsLeftBy : {A : Type 0} → Answer A → Cluster → Stored → Type 0
IsLeftBy done s stored = (stored ≡ stored_of s) ⊎ (stored ≡ stored_of done.1)
