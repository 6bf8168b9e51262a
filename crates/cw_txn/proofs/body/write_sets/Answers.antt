use Rattle.std.proofs.Common.{length}
use Rattle.cw_bytes.specs.Spelling.{word}
use Rattle.cw_txn.specs.Body.{set_bytes, IsSet}
use Rattle.cw_txn.proofs.Written.{written_more, all_more, all_written}
use Rattle.cw_txn.proofs.body.write_sets.Goals as goal

pub loop-set-preserved : goal.loop-set-preserved
loop-set-preserved c = (
  written_more set_bytes IsSet c.args.list.now c.loop-set.set-index c.set-item.result c.loop-set-test.true c.set-item.is c.args.into.now (word (length c.args.list.now)) c.loop-set.into c.write_set.new.into c.loop-set.invariant.0 c.in_ok-write_set.ensures.ok,
  all_more set_bytes IsSet c.args.list.now c.loop-set.set-index c.set-item.result c.loop-set-test.true c.set-item.is c.loop-set.invariant.1 c.in_ok-write_set.ensures.fits,
)

pub returns-clause-fits : goal.returns-clause-fits
returns-clause-fits c =
    let done = all_written IsSet c.args.list.now c.loop-set.set-index c.loop-set-test.false c.loop-set.invariant.1 in
    (c.requires, done)
