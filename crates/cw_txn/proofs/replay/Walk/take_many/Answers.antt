use Rattle.std.proofs.lemmas.Result.{err_from_is_err_and}
use Rattle.cw_bytes.specs.Reading.{many_at}
use Rattle.cw_bytes.proofs.Many.{goes_on, ends, is_done}
use Rattle.cw_txn.specs.BodyReading.{entry_at}
use Rattle.cw_txn.proofs.WalkLemmas.{took_more}
use Rattle.cw_txn.proofs.replay.Walk.take_many.Goals as goal

pub returns-in_err-entry-clause-read : goal.returns-in_err-entry-clause-read
returns-in_err-entry-clause-read c =
    let p = err_from_is_err_and c.from_residual.result c.from_residual.ensures.1 in
    rw (p.1, p.2) (ends entry_at c.in_err-entry.field-0.0 c.loop.group.items c.args.count c.loop.counter c.loop.from (many_at entry_at c.args.count c.args.from.now) c.loop-test.true c.in_err-entry.ensures c.loop.invariant.reads)

pub loop-preserved : goal.loop-preserved
loop-preserved c = rw c.and-group.ensures (record {
  reads = goes_on entry_at c.loop.group.items c.args.count c.loop.counter c.loop.from c.in_ok-entry.entry c.read_entry.new.from (many_at entry_at c.args.count c.args.from.now) c.loop-test.true c.in_ok-entry.ensures c.loop.invariant.reads;
  took = took_more c.loop.group.items c.in_ok-entry.entry c.args.gate c.args.self.now c.loop.self c.take.new.self c.loop.invariant.took c.in_ok-take.ensures;
})

pub returns-clause-read : goal.returns-clause-read
returns-clause-read c = is_done entry_at c.loop.group.items c.args.count c.loop.counter c.loop.from (many_at entry_at c.args.count c.args.from.now) c.loop-test.false c.loop.invariant.reads
