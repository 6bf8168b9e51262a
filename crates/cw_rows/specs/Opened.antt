-- A cluster as it is opened: what the logs hold, no worker, and nothing done yet.
use Rattle.std.specs.Prelude.{[], None}
use Rattle.cw_assign.specs.declared.delay.Delay.TheVariants.{Idle}
use Rattle.cw_group.specs.Group.{empty_group}
use Rattle.cw_model.specs.State.{Cluster}
use Rattle.cw_topics.specs.Topics.{TopicsState}

-- the state without workers over what the logs hold
abbrev pub opened_of : TopicsState → Cluster
opened_of topics = record {
  config = topics.config;
  offsets = record { frames = topics.offsets.frames; side = topics.offsets.side };
  status = topics.status;
  txn = topics.txn;
  batches = topics.batches.entries;
  configs = topics.configs;
  statuses = topics.statuses.list;
  entries = topics.entries.entries;
  group = empty_group;
  lost = [];
  delay = Idle;
  moment = 0;
  rows = [];
  instances = [];
  journal = [];
  closed = None;
}
