-- The state to which eight disks are opened, and what stays the same of it through a run. This project's own.
use Rattle.std.specs.Prelude.{◌≡◌, ℕ, List, [], None}
use Rattle.cw_bytes.specs.Frames.{joined}
use Rattle.cw_config.specs.Compaction.{configs_in}
use Rattle.cw_assign.specs.declared.delay.Delay.TheVariants.{Idle}
use Rattle.cw_group.specs.Group.{empty_group}
use Rattle.cw_io.specs.Shelf.{Files}
use Rattle.cw_model.specs.State.{Cluster, Setting}
use Rattle.cw_model.specs.Bodies.{statuses_in}
use Rattle.cw_model.specs.StandsFor.{Frames}
use Rattle.cw_world.specs.Logs.{LogsState, logs_of}
use Rattle.cw_open.specs.declared.judged_disks.JudgedDisks.{JudgedDisks}

-- the state without workers over these frames, on sides with these numbers
abbrev pub opened_as : Frames → (config offsets status : ℕ) → Cluster
opened_as frames config offsets status = record {
  config = record { frames = frames.config; side = config };
  offsets = record { frames = frames.offsets; side = offsets };
  status = record { frames = frames.status; side = status };
  txn = frames.txn;
  batches = frames.batches;
  configs = configs_in frames.config;
  statuses = statuses_in frames.status;
  entries = joined frames.txn;
  group = empty_group;
  lost = [];
  delay = Idle;
  moment = 0;
  rows = [];
  instances = [];
  journal = [];
  closed = None;
}

-- that of disks that were judged
abbrev pub opened_by : {D : Type 0} → JudgedDisks D → Cluster
opened_by judged = opened_as judged.frames judged.config.log.number judged.offsets.log.number judged.status.log.number

-- their logs
abbrev pub logs_in : {D : Type 0} → JudgedDisks D → LogsState D
logs_in judged = logs_of judged.config judged.offsets judged.status judged.txn judged.batches

-- the group's name, the scheduled delay and the feeds are these
pub record IsSetBy (group : List ℕ) (delay : ℕ) (feeds : Files) (setting : Setting) : Type 0 where
  pub group_is : setting.group ≡ group
  pub delay_is : setting.delay ≡ delay
  pub feeds_are : setting.feeds ≡ feeds
