use Rattle.cw_open.specs.Judged.{stored_by}
use Rattle.cw_audit.specs.Report.{log_lines}
use Rattle.cw_audit.proofs.Sizes.{five-lines}
use Rattle.cw_audit.proofs.printing.log_lines.Goals as goal

pub returns : goal.returns
unfolding log_lines
returns g c =
    let stored = stored_by c.args.judged.now in
    let of = c.requires in
    five-lines _ _ _ _ _ _ _ _ _ _ _ c.new-text.ensures.items
    (c.in_ok-write_log.ensures stored.config.frames of.config.size_is of.config.bytes_are)
    (c.in_ok-write_log-2.ensures stored.offsets.frames of.offsets.size_is of.offsets.bytes_are)
    (c.in_ok-write_log-3.ensures stored.status.frames of.status.size_is of.status.bytes_are)
    (c.in_ok-write_log-4.ensures stored.txn of.txn.size_is of.txn.bytes_are)
    (c.in_ok-write_log-5.ensures stored.batches of.batches.size_is of.batches.bytes_are)
