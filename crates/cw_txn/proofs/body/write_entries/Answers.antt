use Rattle.std.proofs.Common.{[], length}
use Rattle.cw_bytes.specs.Spelling.{word}
use Rattle.cw_txn.specs.Body.{entry_bytes, IsEntry}
use Rattle.cw_txn.proofs.Written.{written_more, all_more, all_written}
use Rattle.cw_txn.proofs.body.write_entries.Goals as goal

pub loop-entry-preserved : goal.loop-entry-preserved
loop-entry-preserved c = (
  written_more entry_bytes IsEntry c.args.entries.now c.loop-entry.entry-index c.entry-item.result c.loop-entry-test.true c.entry-item.is [] (word (length c.args.entries.now)) c.loop-entry.into c.write_entry.new.into c.loop-entry.invariant.0 c.in_ok-write_entry.ensures.ok,
  all_more entry_bytes IsEntry c.args.entries.now c.loop-entry.entry-index c.entry-item.result c.loop-entry-test.true c.entry-item.is c.loop-entry.invariant.1 c.in_ok-write_entry.ensures.fits,
)

pub returns-clause-fits : goal.returns-clause-fits
returns-clause-fits c =
    let done = all_written IsEntry c.args.entries.now c.loop-entry.entry-index c.loop-entry-test.false c.loop-entry.invariant.1 in
    record { some = c.requires.some; list = (c.requires.few, done) }
