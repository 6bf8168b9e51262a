use Rattle.std.proofs.lemmas.Result.{err_from_is_err_and}
use Rattle.cw_bytes.specs.Reading.{many_at}
use Rattle.cw_bytes.proofs.Many.{goes_on, ends, is_done}
use Rattle.cw_txn.specs.BodyReading.{set_at}
use Rattle.cw_txn.proofs.body.read_many_sets.Goals as goal

pub returns-in_err-set : goal.returns-in_err-set
returns-in_err-set c =
    let p = err_from_is_err_and c.from_residual.result c.from_residual.ensures.1 in
    rw (p.1, p.2) (ends set_at c.in_err-set.field-0.0 c.loop.list.items c.args.count c.loop.counter c.loop.from (many_at set_at c.args.count c.args.from.now) c.loop-test.true c.in_err-set.ensures c.loop.invariant)

pub loop-preserved : goal.loop-preserved
loop-preserved c =
    rw c.in_ok-push.ensures.items (goes_on set_at c.loop.list.items c.args.count c.loop.counter c.loop.from c.in_ok-set.set c.read_set.new.from (many_at set_at c.args.count c.args.from.now) c.loop-test.true c.in_ok-set.ensures c.loop.invariant)

pub returns : goal.returns
returns c = is_done set_at c.loop.list.items c.args.count c.loop.counter c.loop.from (many_at set_at c.args.count c.args.from.now) c.loop-test.false c.loop.invariant
