-- Where no server begins: a start that stands for none. This project's own.
use Rattle.std.specs.Prelude.{[], false, None}
use Rattle.cw_assign.specs.declared.delay.Delay.TheVariants.{Idle}
use Rattle.cw_group.specs.Group.{empty_group}
use Rattle.cw_model.specs.State.{Cluster}
use Rattle.cw_turns.specs.Going.{Start}

-- a cluster over empty logs
abbrev pub no_cluster : Cluster
no_cluster = record {
  config = record { frames = []; side = 0 };
  offsets = record { frames = []; side = 0 };
  status = record { frames = []; side = 0 };
  txn = [];
  batches = [];
  configs = [];
  statuses = [];
  entries = [];
  group = empty_group;
  lost = [];
  delay = Idle;
  moment = 0;
  rows = [];
  instances = [];
  journal = [];
  closed = None;
}

-- where no server begins
abbrev pub no_start : Start
no_start = record {
  setting = record { group = []; delay = 0; feeds = []; agreed = false };
  state = no_cluster;
  name = record { number = 0; log_name = 0; cells_name = 0 };
  counts = λ disk. 0;
  tells = false;
}
