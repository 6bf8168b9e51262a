use Rattle.cw_open.proofs.ContentLemmas.{stored-by}
use Rattle.cw_open.proofs.contents.read_disks.Goals as goal

pub returns-in-Ok-clause-files : goal.returns-in-Ok-clause-files
returns-in-Ok-clause-files g c files told =
    let is = c.in-Ok.ensures in
    stored-by files c.in-Ok.logs
    (is.config.files files.config_a files.config_b told.0.0 told.0.1) (is.offsets.files files.offsets_a files.offsets_b told.1.0.0 told.1.0.1)
    (is.status.files files.status_a files.status_b told.1.1.0.0 told.1.1.0.1) (is.txn.files files.txn told.1.1.1.0) (is.batches.files files.batches told.1.1.1.1.0)
    (record {
      config = is.config.side files.config_a files.config_b told.0.0 told.0.1;
      offsets = is.offsets.side files.offsets_a files.offsets_b told.1.0.0 told.1.0.1;
      status = is.status.side files.status_a files.status_b told.1.1.0.0 told.1.1.0.1;
    })

pub returns-in-Ok-clause-logs : goal.returns-in-Ok-clause-logs
returns-in-Ok-clause-logs g c = let is = c.in-Ok.ensures in
    record { config = is.config.log; offsets = is.offsets.log; status = is.status.log; txn = is.txn.log; batches = is.batches.log }

pub returns-in-Ok-clause-from : goal.returns-in-Ok-clause-from
returns-in-Ok-clause-from g c = let is = c.in-Ok.ensures in
    record { config = is.config.from; offsets = is.offsets.from; status = is.status.from; txn = is.txn.from; batches = is.batches.from }
