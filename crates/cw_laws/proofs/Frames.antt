-- The facts of a part of the state stay where that part does: t is any state, taken with that part of s. Where t has that part as s does, the
-- conclusion is the fact of t itself.
use Rattle.cw_model.specs.State.{Setting, Cluster}
use Rattle.cw_model.specs.FactsLogs.{LogFacts}
use Rattle.cw_model.specs.Safe.{IsExact, IsBacked}

pub logs-frame : (setting : Setting) (s t : Cluster) → LogFacts setting s → LogFacts setting (record t {
  config = s.config;
  offsets = s.offsets;
  status = s.status;
  txn = s.txn;
  batches = s.batches;
  configs = s.configs;
  statuses = s.statuses;
  entries = s.entries;
})
logs-frame setting s t f = record {
  configs_read = f.configs_read;
  statuses_read = f.statuses_read;
  configs = f.configs;
  statuses = f.statuses;
  entries = f.entries;
  all_entries = f.all_entries;
  offsets = f.offsets;
  batches = f.batches;
  agree = f.agree;
  short = f.short;
  disks = record { config = f.disks.config; offsets = f.disks.offsets; status = f.disks.status; txn = f.disks.txn; batches = f.disks.batches };
  written = record { config = f.written.config; offsets = f.written.offsets; status = f.written.status; txn = f.written.txn; batches = f.written.batches };
}

pub exact-frame : (setting : Setting) (s t : Cluster) → IsExact setting s → IsExact setting (record t { entries = s.entries; batches = s.batches })
exact-frame setting s t f = assumption f

pub backed-frame : (s t : Cluster) → IsBacked s → IsBacked (record t { entries = s.entries; batches = s.batches })
backed-frame s t f = assumption f
