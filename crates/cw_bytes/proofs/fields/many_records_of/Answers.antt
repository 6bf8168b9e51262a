use Rattle.std.proofs.lemmas.Result.{err_from_is_err_and}
use Rattle.cw_bytes.specs.Input.{unread}
use Rattle.cw_bytes.specs.Reading.{record_at, many_at}
use Rattle.cw_bytes.proofs.Many.{goes_on, ends, is_done}
use Rattle.cw_bytes.proofs.fields.many_records_of.Goals as goal

pub returns-in_err-applied : goal.returns-in_err-applied
returns-in_err-applied c =
    let p = err_from_is_err_and c.from_residual.result c.from_residual.ensures.1 in
    rw (p.1, p.2) (ends record_at c.in_err-applied.field-0.0 c.loop.records.items c.args.count c.loop.counter (unread c.loop.rest) (many_at record_at c.args.count (unread c.args.from)) c.loop-test.true c.in_err-applied.ensures c.loop.invariant)

pub loop-preserved : goal.loop-preserved
loop-preserved c =
    rw c.in_ok-push.ensures.items (goes_on record_at c.loop.records.items c.args.count c.loop.counter (unread c.loop.rest) c.in_ok-applied.applied (unread c.in_ok-applied.next) (many_at record_at c.args.count (unread c.args.from)) c.loop-test.true c.in_ok-applied.ensures c.loop.invariant)

pub returns : goal.returns
returns c = is_done record_at c.loop.records.items c.args.count c.loop.counter (unread c.loop.rest) (many_at record_at c.args.count (unread c.args.from)) c.loop-test.false c.loop.invariant
